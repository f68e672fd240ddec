use Rattle.std.proofs.Common.{◌≡◌, ◌≤◌, ◌++◌}
use Rattle.waveform.specs.Vcd.{bits}
use Rattle.waveform.proofs.lines.push_bits.Given as goal

-- what was pushed, and the bits that are left
abbrev pub invariant-loop-left : goal.invariant-loop-left
invariant-loop-left l = record {
  within : l.left ≤ l.width;
  whole : l.text.items ++ bits l.left l.value ≡ l.fn.text.items ++ bits l.width l.value;
}

abbrev pub decreases-loop-left : goal.decreases-loop-left
decreases-loop-left l = l.left
