-- Worked examples of what the operators of the program give.
use Rattle.std.specs.Prelude.{◌≡◌, refl, ◌^◌, true, false}
use Rattle.bit_ops.specs.Applied.{unary, unary_width, binary, binary_width, takes_one_width}
use Rattle.bit_ops.specs.declared.operator.Unary.TheVariants as one
use Rattle.bit_ops.specs.declared.operator.Binary.TheVariants as two

-- 1 << 127 in 128 bits, 5 / 0, and with four bits -7 % 2 is -1 and -8 >>> 1 is -4
shift_to_the_top : binary two.Shl false 128 1 127 ≡ 2 ^ 127
shift_to_the_top = refl

quotient_by_zero : binary two.Div false 8 5 0 ≡ 0
quotient_by_zero = refl

remainder_of_negative : binary two.Rem true 4 9 2 ≡ 15
remainder_of_negative = refl

sign_comes_in : binary two.Sar true 4 8 1 ≡ 12
sign_comes_in = refl

zero_comes_in : binary two.Sar false 4 8 1 ≡ 4
zero_comes_in = refl

-- only `>>>` looks at the sign
plain_right : binary two.Shr true 4 8 1 ≡ 4
plain_right = refl

-- -1 is below 0, 15 isn't; both ways round
below_zero : binary two.Lt true 4 15 0 ≡ 1
below_zero = refl

above_zero : binary two.Gt false 4 15 0 ≡ 1
above_zero = refl

-- 1100 ~^ 1010 is 1001
xnor_bits : binary two.Xnor false 4 12 10 ≡ 9
xnor_bits = refl

-- a condition of any width
both_hold : binary two.LogicAnd false 4 2 1 ≡ 1
both_hold = refl

not_both : binary two.LogicAnd false 4 2 0 ≡ 0
not_both = refl

-- ~& of 1110 is 1, ^ of 0111 is 1, - of 1000 is 1000
nand_bits : unary one.Nand 4 14 ≡ 1
nand_bits = refl

parity : unary one.Xor 4 7 ≡ 1
parity = refl

least_negated : unary one.Minus 4 8 ≡ 8
least_negated = refl

-- widths
sum_width : binary_width two.Add 7 ≡ 7
sum_width = refl

test_width : binary_width two.Le 7 ≡ 1
test_width = refl

reduced_width : unary_width one.Or 7 ≡ 1
reduced_width = refl

distance_apart : takes_one_width two.Shl ≡ false
distance_apart = refl
