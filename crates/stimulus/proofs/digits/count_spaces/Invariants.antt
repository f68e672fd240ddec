-- The spaces so far, which are no more than the bytes so far.
use Rattle.std.proofs.Common.{◌≡◌, ◌≤◌, take}
use Rattle.std.specs.List.{count_by}
use Rattle.stimulus.specs.Calls.Digits.{is_space}
use Rattle.stimulus.proofs.digits.count_spaces.Given as goal

abbrev pub invariant-loop-byte : goal.invariant-loop-byte
invariant-loop-byte l = record {
  few : l.count ≤ l.byte-index;
  count : l.count ≡ count_by is_space (take l.byte-index l.bytes);
}
