use Rattle.std.proofs.Common.{ap, ◌∙◌, arith}
use Rattle.token_net.specs.Posts.{Leader}
use Rattle.gang_board.specs.PostStates.{leader}
use Rattle.thread_tests.proofs.Failing.{may_raise}
use Rattle.thread_tests.proofs.leaders_and_laggers.go_on.Goals as goal

pub raise-requires-clause-may : goal.raise-requires-clause-may
raise-requires-clause-may c =
    let p = c.see_fire.new.post in let was = c.loop.invariant in let is = c.see_fire.ensures.post in
    let at = ap (λ (x : Leader). x.at) is.post in let halted = ap (λ (x : Leader). x.halted) is.post in
    let here = was.position in let small = c.loop-test.true in
    may_raise p.seat.table_id.words p.number (leader p) p.seat.me p.is (is.named ∙ was.named) (halted ∙ was.halted)
    (omega (arith, at, here, small))
