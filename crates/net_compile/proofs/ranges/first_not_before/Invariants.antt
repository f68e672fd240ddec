use Rattle.std.proofs.Common.{ℕ, ◌-◌, ◌<◌, ◌≤◌, length, get_or}
use Rattle.netlist.specs.Fits.{IsBefore}
use Rattle.netlist.specs.declared.design.Range.{Range}
use Rattle.net_compile.specs.Pieces.{one_bit}
use Rattle.net_compile.proofs.ranges.first_not_before.Given as goal

-- the ranges below the one place end before the bit, and that at the other place doesn't
abbrev pub invariant-loop-low : goal.invariant-loop-low
invariant-loop-low l = record {
  below : l.low ≤ l.high;
  within : l.high ≤ length l.ranges;
  before : (k : ℕ) (d : Range) → k < l.low → IsBefore (get_or l.ranges k d) (one_bit l.signal l.place);
  after : (d : Range) → l.high < length l.ranges → IsBefore (get_or l.ranges l.high d) (one_bit l.signal l.place) → ⊥;
}

abbrev pub decreases-loop-low : goal.decreases-loop-low
decreases-loop-low l = l.high - l.low
