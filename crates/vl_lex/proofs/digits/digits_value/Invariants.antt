use Rattle.std.proofs.Common.{◌≡◌, drop}
use Rattle.vl_lex.specs.Digits.{digit_value, value_of}
use Rattle.vl_lex.proofs.DigitLaws.{read_on}
use Rattle.vl_lex.proofs.digits.digits_value.Given as goal

abbrev pub invariant-loop-byte : goal.invariant-loop-byte
invariant-loop-byte l = read_on digit_value l.fn.radix l.value (drop l.byte-index l.digits) ≡ value_of l.fn.radix l.digits
