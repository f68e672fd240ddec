use Rattle.std.proofs.Common.{ℕ, ◌-◌, ◌<◌, ◌≤◌, length, get_or}
use Rattle.netlist.specs.Fits.{IsBefore}
use Rattle.netlist.specs.declared.design.DrivenPart.{DrivenPart}
use Rattle.comb_order.proofs.reads.first_not_before.Given as goal

-- the parts below the one place stand before the range
abbrev pub invariant-loop-low : goal.invariant-loop-low
invariant-loop-low l = record {
  below : l.low ≤ l.high;
  within : l.high ≤ length l.driven;
  before : (k : ℕ) (d : DrivenPart) → k < l.low → IsBefore (get_or l.driven k d).range l.range;
}

abbrev pub decreases-loop-low : goal.decreases-loop-low
decreases-loop-low l = l.high - l.low
