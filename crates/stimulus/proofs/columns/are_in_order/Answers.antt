use Rattle.std.proofs.Common.{arith}
use Rattle.stimulus.proofs.SingleLaws.{in_order}
use Rattle.stimulus.proofs.columns.are_in_order.Goals as goal

pub returns : goal.returns
returns c yes' =
    in_order c.args.places.now c.args.count (omega (arith, c.if-places-count.false))
    (λ j d l. c.loop-k.invariant.same j d (omega (arith, l, c.loop-k-test.false)))
