use Rattle.std.proofs.Common.{◌-◌, ◌≤◌}
use Rattle.net_compile.specs.Pieces.{front_of}
use Rattle.net_compile.specs.Stands.{Grows, OperandStands, signal_number}
use Rattle.net_compile.proofs.leaf.bits.Given as goal

-- what was joined so far are the lowest bits
abbrev pub invariant-loop-all : goal.invariant-loop-all
invariant-loop-all l = record {
  grows : Grows l.fn.builder l.builder;
  within : l.all.width ≤ l.range.width;
  stands : OperandStands l.flat (front_of l.layout.given) l.builder l.all
      (signal_number l.flat (front_of l.layout.given) l.range.signal l.range.low l.all.width);
}

abbrev pub decreases-loop-all : goal.decreases-loop-all
decreases-loop-all l = l.range.width - l.all.width
