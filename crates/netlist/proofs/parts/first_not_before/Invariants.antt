use Rattle.std.proofs.Common.{◌-◌, ◌≤◌, length}
use Rattle.netlist.specs.Fits.{StandBefore}
use Rattle.netlist.proofs.parts.first_not_before.Given as goal

-- the parts so far stand before the range
abbrev pub invariant-loop-next : goal.invariant-loop-next
invariant-loop-next l = record {
  here : l.from ≤ l.next;
  within : l.next ≤ length l.driven;
  before : StandBefore l.driven l.from l.next l.range;
}

abbrev pub decreases-loop-next : goal.decreases-loop-next
decreases-loop-next l = length l.driven - l.next
