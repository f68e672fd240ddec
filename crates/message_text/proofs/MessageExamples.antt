-- Worked examples of the texts of values.
use Rattle.std.proofs.Common.{◌≡◌, refl, true, false}
use Rattle.std.specs.Prelude.{codes}
use Rattle.std.specs.Fmt.{digits}
use Rattle.netlist.specs.Message.{value_text}
use Rattle.netlist.specs.declared.design.Base.TheVariants as b

-- ---- all digits of a width that isn't a multiple, and the fewest

binary_all : value_text b.Binary false false 7 5 ≡ codes "0000101"
binary_all = refl

binary_fewest : value_text b.Binary true false 7 5 ≡ codes "101"
binary_fewest = refl

octal_seven_bits : value_text b.Octal false false 7 127 ≡ codes "177"
octal_seven_bits = refl

octal_eight_bits : value_text b.Octal false false 8 15 ≡ codes "017"
octal_eight_bits = refl

octal_one_bit : value_text b.Octal false false 1 1 ≡ codes "1"
octal_one_bit = refl

hexadecimal_nine_bits : value_text b.Hexadecimal false false 9 511 ≡ codes "1ff"
hexadecimal_nine_bits = refl

hexadecimal_fewest : value_text b.Hexadecimal true false 33 2748 ≡ codes "abc"
hexadecimal_fewest = refl

-- one digit for 0; the sign doesn't matter but in decimal
zero_fewest : value_text b.Octal true true 64 0 ≡ codes "0"
zero_fewest = refl

signed_hexadecimal : value_text b.Hexadecimal false true 8 255 ≡ codes "ff"
signed_hexadecimal = refl

-- ---- decimal: the columns of 2^w - 1, and where signed one more than those of 2^(w-1)

decimal_columns : value_text b.Decimal false false 8 5 ≡ codes "  5"
unfolding digits
decimal_columns = refl

decimal_full : value_text b.Decimal false false 8 255 ≡ codes "255"
unfolding digits
decimal_full = refl

signed_columns : value_text b.Decimal false true 8 5 ≡ codes "   5"
unfolding digits
signed_columns = refl

-- the minus stands directly before the digits
signed_minus : value_text b.Decimal false true 8 255 ≡ codes "  -1"
unfolding digits
signed_minus = refl

signed_least : value_text b.Decimal false true 8 128 ≡ codes "-128"
unfolding digits
signed_least = refl

signed_one_bit : value_text b.Decimal false true 1 0 ≡ codes " 0"
unfolding digits
signed_one_bit = refl

signed_one_bit_minus : value_text b.Decimal false true 1 1 ≡ codes "-1"
unfolding digits
signed_one_bit_minus = refl

decimal_fewest : value_text b.Decimal true true 8 128 ≡ codes "-128"
unfolding digits
decimal_fewest = refl

-- ---- the low byte

character_low : value_text b.Character false false 16 16706 ≡ codes "B"
character_low = refl
