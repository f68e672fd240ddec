use Rattle.std.proofs.Common.{◌≡◌, ◌≤◌, ◌^◌, ◌++◌}
use Rattle.netlist.specs.Message.{digits}
use Rattle.message_text.proofs.radix.append_digits.Given as goal

-- what was appended, and the digits that are left
abbrev pub invariant-loop-left : goal.invariant-loop-left
invariant-loop-left l = record {
  few : l.left ≤ l.count;
  whole : l.out.items ++ digits (2 ^ l.size) l.left l.value ≡ l.initial.out.items ++ digits (2 ^ l.size) l.count l.value;
}

abbrev pub decreases-loop-left : goal.decreases-loop-left
decreases-loop-left l = l.left
