use Rattle.std.proofs.Common.{arith}
use Rattle.comb_order.proofs.Ranges.{before_too}
use Rattle.comb_order.proofs.reads.first_not_before.Goals as goal

pub loop-low-preserved-then-is_before : goal.loop-low-preserved-then-is_before
loop-low-preserved-then-is_before c = record {
  below = omega (arith, c.loop-low-test.true);
  within = c.loop-low.invariant.within;
  before = before_too c.args.driven.now c.requires _ c.args.range.now
      (omega (arith, c.loop-low-test.true, c.loop-low.invariant.within))
      (c.is_before.ensures.0 c.if-is_before.true);
}
