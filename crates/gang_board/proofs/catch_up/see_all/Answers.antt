use Rattle.std.proofs.Common.{arith}
use Rattle.gang_board.proofs.CaughtLaggers.{seen_places}
use Rattle.gang_board.proofs.catch_up.see_all.Goals as goal

pub returns : goal.returns
returns c = let inv = c.loop-number.invariant in let last = c.loop-number-test.false in
    seen_places c.loop-number.sights.items c.args.leaders.now inv.0 (λ j d e l. inv.1 j d e (omega (arith, l, last)))
