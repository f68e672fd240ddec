-- The bytes so far are digits, and this is their number.
use Rattle.std.proofs.Common.{◌≡◌, true, take}
use Rattle.std.specs.List.{list_all}
use Rattle.std.specs.Char.{is_ascii_hexdigit}
use Rattle.stimulus.specs.Stimulus.{number_of}
use Rattle.stimulus.proofs.digits.few_digits.Given as goal

abbrev pub invariant-loop-i : goal.invariant-loop-i
invariant-loop-i l = record {
  digits : list_all is_ascii_hexdigit (take l.i l.bytes) ≡ true;
  number : number_of (take l.i l.bytes) ≡ l.value;
}
