use Rattle.std.proofs.Common.{◌≡◌, ◌<◌, ◌%◌, ◌^◌, ◌∷◌, drop, map}
use Rattle.vl_lex.specs.Digits.{digits_in, positional, z_bits}
use Rattle.vl_lex.proofs.DigitLaws.{read_on}
use Rattle.vl_lex.proofs.digits.wild_after.Given as goal

abbrev pub invariant-loop-byte : goal.invariant-loop-byte
invariant-loop-byte l = record {
  so_far : read_on (z_bits l.bits) (2 ^ l.bits) l.wild (drop l.byte-index l.digits) % 2 ^ 128
      ≡ positional (2 ^ l.bits) (l.before ∷ map (z_bits l.bits) (digits_in l.digits)) % 2 ^ 128;
  small : l.wild < 2 ^ 128;
}
