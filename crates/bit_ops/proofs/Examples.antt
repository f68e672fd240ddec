-- Worked examples of the operators.
use Rattle.std.specs.Prelude.{◌≡◌, refl, ◌-◌, ◌^◌, true, false, pos, negsuc}
use Rattle.bit_ops.specs.Operators.{low, residue, integer, extend, bit, holds, add, sub, mul, negate, div, rem, less, at_most, invert, all_ones, ones, is_odd, shift_left, shift_right, shift_right_signed, select, insert, concat}

-- 0x1f cut to four bits is 15
low_cut : low 4 0x1f ≡ 15
low_cut = refl

-- -1 and 17 modulo 16
residue_negative : residue 4 (negsuc 0) ≡ 15
residue_negative = refl

residue_turn : residue 4 (negsuc 16) ≡ 15
residue_turn = refl

residue_positive : residue 4 (pos 17) ≡ 1
residue_positive = refl

-- 1000 is -8 where signed, 8 where not; 0111 is 7 either way
integer_negative : integer true 4 8 ≡ negsuc 7
integer_negative = refl

integer_unsigned : integer false 4 8 ≡ pos 8
integer_unsigned = refl

integer_positive : integer true 4 7 ≡ pos 7
integer_positive = refl

-- -8 is 11111000 at eight bits; unsigned it is 00001000
extend_signed : extend true 4 8 8 ≡ 0xf8
extend_signed = refl

extend_unsigned : extend false 4 8 8 ≡ 8
extend_unsigned = refl

extend_positive : extend true 4 8 7 ≡ 7
extend_positive = refl

-- -1 of one bit at the largest width
extend_widest : extend true 1 128 1 ≡ 2 ^ 128 - 1
extend_widest = refl

-- cut to a lesser width
extend_cut : extend true 8 4 0xf8 ≡ 8
extend_cut = refl

-- a test's value, and a condition
bit_true : bit true ≡ 1
bit_true = refl

holds_two : holds 2 ≡ true
holds_two = refl

holds_zero : holds 0 ≡ false
holds_zero = refl

-- 15 + 1 is 0 at four bits; the greatest number and 1 are 0 at 128
add_carry : add 4 15 1 ≡ 0
add_carry = refl

add_inside : add 4 9 1 ≡ 10
add_inside = refl

add_widest : add 128 (2 ^ 128 - 1) 1 ≡ 0
add_widest = refl

sub_borrow : sub 4 0 1 ≡ 15
sub_borrow = refl

mul_cut : mul 4 7 7 ≡ 1
mul_cut = refl

negate_most : negate 4 8 ≡ 8
negate_most = refl

sub_wide : sub 128 0 1 ≡ 2 ^ 128 - 1
sub_wide = refl

-- 5 / 0 is 0, and 5 % 0 is 0
div_zero : div false 8 5 0 ≡ 0
div_zero = refl

rem_zero : rem true 8 5 0 ≡ 0
rem_zero = refl

-- -7 / 2 is -3, -7 % 2 is -1, 7 % -2 is 1
div_signed : div true 8 (256 - 7) 2 ≡ 256 - 3
div_signed = refl

rem_signed : rem true 8 (256 - 7) 2 ≡ 256 - 1
rem_signed = refl

rem_positive : rem true 8 7 (256 - 2) ≡ 1
rem_positive = refl

div_unsigned : div false 8 (256 - 7) 2 ≡ 124
div_unsigned = refl

-- -8 / -1 is 8, which at four bits is -8 again, and the remainder is 0
div_most : div true 4 8 15 ≡ 8
div_most = refl

rem_most : rem true 4 8 15 ≡ 0
rem_most = refl

-- -1 < 0, but 15 is not below 0
less_signed : less true 4 15 0 ≡ true
less_signed = refl

less_unsigned : less false 4 15 0 ≡ false
less_unsigned = refl

at_most_same : at_most true 4 8 8 ≡ true
at_most_same = refl

-- a shift beyond the width: 0, and all sign bits where signed
shift_left_far : shift_left 8 0xff (2 ^ 100) ≡ 0
shift_left_far = refl

shift_right_far : shift_right 8 0xff 8 ≡ 0
shift_right_far = refl

shift_signed_far : shift_right_signed 8 0x80 (2 ^ 100) ≡ 0xff
shift_signed_far = refl

shift_signed_one : shift_right_signed 4 8 1 ≡ 12
shift_signed_one = refl

-- reductions
ones_wide : ones 128 (2 ^ 128 - 1) ≡ 128
ones_wide = refl

odd_three : is_odd 4 7 ≡ true
odd_three = refl

all_of_four : all_ones 4 15 ≡ true
all_of_four = refl

inverted : invert 4 5 ≡ 10
inverted = refl

-- places: two bits from place 3 of 1010, where place 4 is outside; two from place -1
select_above : select (pos 3) 2 10 ≡ 1
select_above = refl

select_below : select (negsuc 0) 2 5 ≡ 2
select_below = refl

select_far : select (pos 40) 4 15 ≡ 0
select_far = refl

-- writes outside are lost
insert_inside : insert 8 (pos 2) 3 5 0xff ≡ 0xf7
insert_inside = refl

insert_above : insert 4 (pos 3) 2 3 0 ≡ 8
insert_above = refl

insert_below : insert 4 (negsuc 0) 2 2 0 ≡ 1
insert_below = refl

insert_far : insert 4 (negsuc 5) 2 3 9 ≡ 9
insert_far = refl

insert_beyond : insert 4 (pos 40) 2 3 9 ≡ 9
insert_beyond = refl

-- {2'b10, 3'b011}
concat_two : concat 3 2 3 ≡ 0b10011
concat_two = refl
