use Rattle.std.proofs.Common.{arith}
use Rattle.net_compile.specs.Pieces.{one_bit}
use Rattle.net_compile.proofs.InOrder.{before_too}
use Rattle.net_compile.proofs.ranges.first_not_before.Goals as goal

pub loop-low-preserved-then-is_before : goal.loop-low-preserved-then-is_before
loop-low-preserved-then-is_before c = record {
  below = omega (arith, c.loop-low-test.true);
  within = c.loop-low.invariant.within;
  before = before_too c.args.ranges.now c.requires _ (one_bit c.args.signal c.args.place)
      (omega (arith, c.loop-low-test.true, c.loop-low.invariant.within))
      (c.is_before.ensures.0 c.if-is_before.true);
  after = c.loop-low.invariant.after;
}
