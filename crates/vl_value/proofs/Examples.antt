-- Worked examples of values, of constants and of what is read.
use Rattle.std.specs.Prelude.{◌≡◌, refl, ℕ, zero, suc, ◌+◌, ◌-◌, ◌%◌, Bool, true, false, if◌then◌else◌, List, [], ◌∷◌, ◌++◌, slice_index, pos, negsuc, Option, Some, None, bytes_eq, codes}
use Rattle.bit_ops.specs.declared.operator.Unary.TheVariants as u
use Rattle.bit_ops.specs.declared.operator.Binary.TheVariants as b
use Rattle.vl_tree.specs.Syntax.{to_signed, to_unsigned, clog2}
use Rattle.vl_tree.specs.Syntax.{Expr, number, read, concat, repeat, chain, choose}
use Rattle.vl_tree.specs.Syntax.{no_expr, more_expr, no_link, more_link, no_choice, more_choice}
use Rattle.vl_tree.specs.Syntax.{no_select, more_select, index, part, upward, downward}
use Rattle.vl_value.specs.Paths.{Text, Path, named, turn, unnamed, same_path}
use Rattle.vl_value.specs.Things.{Shape, Thing, signal, memory, constant, routine}
use Rattle.vl_value.specs.Meaning.{Context, Meaning, own, assigned, meaning, open_bits, matches}
use Rattle.vl_value.specs.Constant.{is_constant}
use Rattle.vl_value.specs.Reads.{Reading, bit, words, reads}
use Rattle.vl_value.proofs.Build as build
use Rattle.vl_value.proofs.Build.{here, sized, plain, two, one, name, of, group, system, call, exprs}

-- ---- what is in sight
-- wire signed [3:0] a is -8; reg [7:0] v is a5; reg [0:7] u, [11:4] x and [4:11] y are a6; reg [5:5] z is 1
-- reg [7:0] m [4:9], n [9:4]: words 10 to 15 from the least index on; reg signed [3:0] k [0:1]: words of -8
-- parameter P is 3, Q is 4'sd15
-- function signed [3:0] f, function [7:0] g, both of one input [7:0], give its low bits; function [7:0] h of two inputs
-- [7:0] gives the second

abbrev pub shape : ℕ → ℕ → Bool → Shape
shape l r s = record { left = l; right = r; signed = s }

abbrev path : Text → Path
path t = named t ∷ []

abbrev pub byte : Shape
byte = shape 7 0 false

abbrev things : List (Text × Thing)
things =
    (codes "a", signal (path (codes "a")) (shape 3 0 true)) ∷
    (codes "v", signal (path (codes "v")) byte) ∷
    (codes "u", signal (path (codes "u")) (shape 0 7 false)) ∷
    (codes "x", signal (path (codes "x")) (shape 11 4 false)) ∷
    (codes "y", signal (path (codes "y")) (shape 4 11 false)) ∷
    (codes "z", signal (path (codes "z")) (shape 5 5 false)) ∷
    (codes "m", memory (path (codes "m")) byte 4 9) ∷
    (codes "n", memory (path (codes "n")) byte 9 4) ∷
    (codes "k", memory (path (codes "k")) (shape 3 0 true) 0 1) ∷
    (codes "P", constant 32 true 3) ∷
    (codes "Q", constant 4 true 15) ∷
    (codes "f", routine false (path (codes "f")) (shape 3 0 true) (byte ∷ [])) ∷
    (codes "g", routine false (path (codes "g")) byte (byte ∷ [])) ∷
    (codes "h", routine false (path (codes "h")) byte (byte ∷ byte ∷ [])) ∷ []

abbrev pub found : List (Text × Thing) → Text → Option Thing
found [] t = None
found (e ∷ es) t = if bytes_eq e.0 t then Some e.1 else found es t

abbrev is_path : Path → Text → Bool
is_path p t = same_path p (path t)

abbrev word : Path → ℕ → ℕ
word p k = if is_path p (codes "a") then 8 else (if is_path p (codes "k") then 8 else (if is_path p (codes "v") then 0xa5
    else (if is_path p (codes "z") then 1 else (if is_path p (codes "m") then 10 + k
    else (if is_path p (codes "n") then 10 + k else 0xa6)))))

abbrev calls : Path → List ℕ → ℕ
calls p ns = if is_path p (codes "f") then slice_index ns 0 % 16
    else (if is_path p (codes "h") then slice_index ns 1 else slice_index ns 0)

abbrev moment : Context
moment = record { find = found things; word = word; calls = calls }

abbrev meant : Expr → Meaning
meant e = meaning moment e

-- where a target of eight bits takes it, and by itself
abbrev at_eight : Expr → ℕ
at_eight e = assigned 8 (meant e)

abbrev self : Expr → ℕ
self e = own (meant e)

abbrev a : Expr
a = name (codes "a")

abbrev v : Expr
v = name (codes "v")

-- 4'd15 + 4'd1
abbrev full : Expr
full = two b.Add (sized 4 false 15) (sized 4 false 1)

abbrev minus : Expr → Expr
minus = one u.Minus

-- ---- Braces

braces_order : self (concat here (more_expr (sized 4 false 1) (more_expr (sized 8 false 2) no_expr))) ≡ 0x102
braces_order = refl

copies_order : self (repeat here (plain 2) (more_expr (sized 4 false 1) (more_expr (sized 4 false 2) no_expr))) ≡ 0x1212
copies_order = refl

unsized_in_braces : self (concat here (more_expr (sized 1 false 1) (more_expr (plain 1) no_expr))) ≡ 4294967297
unsized_in_braces = refl

braces_unsigned : at_eight (concat here (more_expr a no_expr)) ≡ 0x08
braces_unsigned = refl

part_unsigned : at_eight (of (codes "a") (part (plain 3) (plain 0))) ≡ 0x08
part_unsigned = refl

sum_braced : at_eight (concat here (more_expr full no_expr)) ≡ 0
sum_braced = refl

twice : self (repeat here (plain 2) (more_expr (of (codes "v") (part (plain 7) (plain 4))) no_expr)) ≡ 0xaa
twice = refl

-- ---- Widths from the context: 4'd15 + 4'd1 is 0 by itself and 16 where eight bits take it

sum_self : self full ≡ 0
sum_self = refl

sum_wide : at_eight full ≡ 16
sum_wide = refl

compared_own : at_eight (two b.Eq full (sized 4 false 0)) ≡ 1
compared_own = refl

compared_wider : self (two b.Eq full (sized 5 false 16)) ≡ 1
compared_wider = refl

cut_after : assigned 2 (meant (two b.Shr (sized 4 false 12) (plain 2))) ≡ 3
cut_after = refl

judged_own : self (two b.LogicAnd full (plain 1)) ≡ 0
judged_own = refl

negated_own : at_eight (one u.LogicNot (group full)) ≡ 1
negated_own = refl

reduced_own : at_eight (one u.Nor (group full)) ≡ 1
reduced_own = refl

condition_own : self (choose (more_choice full here (plain 1) no_choice) (plain 2)) ≡ 2
condition_own = refl

unsigned_own : at_eight (system to_unsigned full) ≡ 0
unsigned_own = refl

log_own : self (system clog2 full) ≡ 0
log_own = refl

index_own : self (of (codes "v") (index (two b.Add (sized 2 false 3) (sized 2 false 1)))) ≡ 1
index_own = refl

all_of_four : at_eight (one u.And (sized 4 false 15)) ≡ 1
all_of_four = refl

inverted_wide : at_eight (one u.Not (sized 4 false 1)) ≡ 0xfe
inverted_wide = refl

-- ---- Shifts: the distance is unsigned and by itself, and its sign is nothing to the result

shifted_signed : at_eight (two b.Sar a (sized 4 false 1)) ≡ 0xfc
shifted_signed = refl

shifted_in_signed : at_eight (two b.Add (group (two b.Sar a (sized 4 false 1))) (sized 8 true 0)) ≡ 0xfc
shifted_in_signed = refl

shifted_in_unsigned : at_eight (two b.Add (group (two b.Sar a (plain 1))) (sized 8 false 0)) ≡ 0x04
shifted_in_unsigned = refl

shifted_logical : at_eight (two b.Shr a (plain 1)) ≡ 0x7c
shifted_logical = refl

shifted_wide : at_eight (two b.Shl (sized 4 false 15) (plain 1)) ≡ 0x1e
shifted_wide = refl

shifted_out : self (two b.Shl (sized 1 false 1) (sized 4 false 1)) ≡ 0
shifted_out = refl

distance_own : self (two b.Shl (sized 8 false 1) (group (two b.Add (sized 2 false 3) (sized 2 false 1)))) ≡ 1
distance_own = refl

distance_unsigned : self (two b.Shl (sized 8 false 1) (sized 3 true 7)) ≡ 0x80
distance_unsigned = refl

-- ---- Arithmetic and signs: a sum, a quotient and a remainder are signed where both operands are, and where the context is

quotient_signed : at_eight (two b.Div (minus (sized 4 true 7)) (plain 2)) ≡ 256 - 3
quotient_signed = refl

remainder_signed : at_eight (two b.Rem (minus (sized 4 true 7)) (plain 2)) ≡ 256 - 1
remainder_signed = refl

remainder_sign : at_eight (two b.Rem (sized 4 true 7) (minus (sized 4 true 2))) ≡ 1
remainder_sign = refl

quotient_unsigned : at_eight (two b.Div (minus (sized 4 true 7)) (sized 8 false 2)) ≡ 124
quotient_unsigned = refl

quotient_in_unsigned : at_eight (two b.Add (group (two b.Div (minus (sized 4 true 7)) (sized 4 true 2))) (sized 8 false 0)) ≡ 124
quotient_in_unsigned = refl

remainder_in_unsigned : at_eight (two b.Add (group (two b.Rem (minus (sized 4 true 7)) (sized 4 true 2))) (sized 8 false 0)) ≡ 1
remainder_in_unsigned = refl

quotient_least : at_eight (two b.Div (sized 4 true 8) (sized 4 true 15)) ≡ 8
quotient_least = refl

quotient_none : at_eight (two b.Div (sized 8 false 5) (sized 8 false 0)) ≡ 0
quotient_none = refl

remainder_none : at_eight (two b.Rem (sized 8 false 5) (sized 8 false 0)) ≡ 0
remainder_none = refl

difference_wide : at_eight (two b.Sub (sized 4 false 1) (sized 4 false 2)) ≡ 0xff
difference_wide = refl

difference_self : self (two b.Sub (sized 4 false 1) (sized 4 false 2)) ≡ 0xf
difference_self = refl

product_wide : at_eight (two b.Mul (sized 4 false 15) (sized 4 false 15)) ≡ 225
product_wide = refl

product_self : self (two b.Mul (sized 4 false 15) (sized 4 false 15)) ≡ 1
product_self = refl

inverted_signed : at_eight (one u.Not a) ≡ 0x07
inverted_signed = refl

negated_signed : at_eight (minus a) ≡ 0x08
negated_signed = refl

literal_signed : at_eight (sized 4 true 15) ≡ 0xff
literal_signed = refl

literal_in_unsigned : at_eight (two b.Add (sized 4 true 15) (sized 4 false 0)) ≡ 0x0f
literal_in_unsigned = refl

constant_signed : at_eight (name (codes "Q")) ≡ 0xff
constant_signed = refl

less_signed : self (two b.Lt (minus (plain 1)) (plain 0)) ≡ 1
less_signed = refl

less_mixed : self (two b.Lt (minus (plain 1)) (sized 4 false 0)) ≡ 0
less_mixed = refl

less_in_unsigned : at_eight (two b.Add (group (two b.Lt a (plain 0))) (sized 8 false 0)) ≡ 1
less_in_unsigned = refl

from_left : self (chain (plain 9) (more_link b.Sub here (plain 4) (more_link b.Sub here (plain 2) no_link))) ≡ 3
from_left = refl

-- ---- Choices: the condition's sign and width are nothing to the result, both values' are

choice_second : self (choose (more_choice (plain 0) here (plain 1) (more_choice (plain 1) here (plain 2) no_choice)) (plain 3)) ≡ 2
choice_second = refl

choice_last : self (choose (more_choice (plain 0) here (plain 1) (more_choice (plain 0) here (plain 2) no_choice)) (plain 3)) ≡ 3
choice_last = refl

choice_signed : at_eight (choose (more_choice (sized 1 false 1) here a no_choice) (sized 8 true 0)) ≡ 0xf8
choice_signed = refl

choice_unsigned : self (choose (more_choice (plain 1) here a no_choice) (sized 8 false 0)) ≡ 0x08
choice_unsigned = refl

choice_of_three : at_eight (choose (more_choice (plain 1) here a (more_choice (plain 0) here a no_choice)) (sized 8 false 0)) ≡ 0x08
choice_of_three = refl

choice_wide : self (choose (more_choice (plain 1) here full no_choice) (sized 8 false 0)) ≡ 16
choice_wide = refl

-- ---- Functions of the system, and calls: an argument is taken as by a target

log_none : self (system clog2 (plain 0)) ≡ 0
log_none = refl

log_one : self (system clog2 (plain 1)) ≡ 0
log_one = refl

log_four : self (system clog2 (plain 4)) ≡ 2
log_four = refl

log_five : self (system clog2 (plain 5)) ≡ 3
log_five = refl

log_most : self (system clog2 (minus (plain 1))) ≡ 32
log_most = refl

log_signed : self (two b.Lt (group (two b.Sub (system clog2 (plain 1)) (plain 1))) (plain 0)) ≡ 1
log_signed = refl

made_signed : at_eight (system to_signed (of (codes "v") (part (plain 7) (plain 4)))) ≡ 0xfa
made_signed = refl

made_unsigned : at_eight (system to_unsigned a) ≡ 0x08
made_unsigned = refl

argument_wide : self (call (codes "g") (full ∷ [])) ≡ 16
argument_wide = refl

argument_signed : self (call (codes "g") (a ∷ [])) ≡ 0xf8
argument_signed = refl

argument_cut : self (call (codes "g") ((sized 9 false 300) ∷ [])) ≡ 44
argument_cut = refl

argument_second : self (call (codes "h") ((plain 1) ∷ (plain 2) ∷ [])) ≡ 2
argument_second = refl

call_signed : at_eight (call (codes "f") ((plain 13) ∷ [])) ≡ 0xfd
call_signed = refl

call_in_unsigned : at_eight (two b.Add (call (codes "f") ((plain 13) ∷ [])) (sized 8 false 0)) ≡ 0x0d
call_in_unsigned = refl

-- ---- Selects in both directions, and outside

bit_two : self (of (codes "v") (index (plain 2))) ≡ 1
bit_two = refl

left_first : self (of (codes "u") (index (plain 0))) ≡ 1
left_first = refl

left_second : self (of (codes "u") (index (plain 1))) ≡ 0
left_second = refl

high_four : self (of (codes "v") (part (plain 7) (plain 4))) ≡ 0xa
high_four = refl

left_four : self (of (codes "u") (part (plain 0) (plain 3))) ≡ 0xa
left_four = refl

upward_four : self (of (codes "v") (upward (plain 4) (plain 4))) ≡ 0xa
upward_four = refl

left_upward : self (of (codes "u") (upward (plain 0) (plain 4))) ≡ 0xa
left_upward = refl

downward_four : self (of (codes "v") (downward (plain 7) (plain 4))) ≡ 0xa
downward_four = refl

left_downward : self (of (codes "u") (downward (plain 3) (plain 4))) ≡ 0xa
left_downward = refl

offset_least : self (of (codes "x") (index (plain 4))) ≡ 0
offset_least = refl

offset_most : self (of (codes "x") (index (plain 11))) ≡ 1
offset_most = refl

offset_four : self (of (codes "x") (part (plain 11) (plain 8))) ≡ 0xa
offset_four = refl

offset_outside : self (of (codes "x") (index (plain 3))) ≡ 0
offset_outside = refl

offset_left_least : self (of (codes "y") (index (plain 4))) ≡ 1
offset_left_least = refl

offset_left_most : self (of (codes "y") (index (plain 11))) ≡ 0
offset_left_most = refl

offset_left_four : self (of (codes "y") (upward (plain 4) (plain 4))) ≡ 0xa
offset_left_four = refl

one_bit : self (of (codes "z") (upward (plain 5) (plain 2))) ≡ 0b01
one_bit = refl

upward_outside : self (of (codes "v") (upward (plain 6) (plain 4))) ≡ 0b0010
upward_outside = refl

downward_outside : self (of (codes "v") (downward (plain 1) (plain 4))) ≡ 0b0100
downward_outside = refl

upward_below : self (of (codes "v") (upward (minus (plain 2)) (plain 4))) ≡ 0b0100
upward_below = refl

part_outside : self (of (codes "v") (part (plain 9) (plain 6))) ≡ 0b0010
part_outside = refl

left_upward_outside : self (of (codes "u") (upward (plain 6) (plain 4))) ≡ 0b1000
left_upward_outside = refl

left_downward_outside : self (of (codes "u") (downward (plain 1) (plain 4))) ≡ 0b0010
left_downward_outside = refl

left_part_outside : self (of (codes "u") (part (plain 6) (plain 9))) ≡ 0b1000
left_part_outside = refl

bit_outside : self (of (codes "v") (index (plain 8))) ≡ 0
bit_outside = refl

index_signed : self (of (codes "v") (index (sized 3 true 7))) ≡ 0
index_signed = refl

-- ---- Words of memories, from the least index on in either direction

word_first : self (of (codes "m") (index (plain 4))) ≡ 10
word_first = refl

word_last : self (of (codes "m") (index (plain 9))) ≡ 15
word_last = refl

word_above : self (of (codes "m") (index (plain 10))) ≡ 0
word_above = refl

word_below : self (of (codes "m") (index (plain 3))) ≡ 0
word_below = refl

word_signed_index : self (of (codes "m") (index (sized 3 true 5))) ≡ 0
word_signed_index = refl

word_other_first : self (of (codes "n") (index (plain 4))) ≡ 10
word_other_first = refl

word_other_last : self (of (codes "n") (index (plain 9))) ≡ 15
word_other_last = refl

word_signed : at_eight (of (codes "k") (index (plain 0))) ≡ 0xf8
word_signed = refl

word_part : at_eight (read (build.named (codes "k")) (more_select here (index (plain 0)) (more_select here (part (plain 3) (plain 0)) no_select))) ≡ 0x08
word_part = refl

word_bit : self (read (build.named (codes "m")) (more_select here (index (plain 5)) (more_select here (index (plain 1)) no_select))) ≡ 1
word_bit = refl

-- ---- Widths and signs themselves

sum_width : (meant (two b.Add a v)).width ≡ 8
sum_width = refl

sum_sign : (meant (two b.Add a v)).signed ≡ false
sum_sign = refl

compared_width : (meant (two b.Eq a v)).width ≡ 1
compared_width = refl

copies_width : (meant (repeat here (plain 3) (more_expr a no_expr))).width ≡ 12
copies_width = refl

log_width : (meant (system clog2 v)).width ≡ 32
log_width = refl

log_sign : (meant (system clog2 v)).signed ≡ true
log_sign = refl

select_width : (meant (of (codes "v") (downward (plain 7) (plain 3)))).width ≡ 3
select_width = refl

call_width : (meant (call (codes "f") ((plain 1) ∷ []))).width ≡ 4
call_width = refl

call_sign : (meant (call (codes "f") ((plain 1) ∷ []))).signed ≡ true
call_sign = refl

-- ---- Items of a case: 4'b1?0? leaves the bits 0101 open, in parentheses too, and meets 1001 and not 0001; bits of an
-- extension are never open, and in braces or behind an operator none is

abbrev pattern : Expr
pattern = number here (record { width = 4; sized = true; signed = false; value = 8; wild = 5 })

meets : matches 4 (open_bits (group pattern)) 8 9 ≡ true
meets = refl

meets_not : matches 4 (open_bits (group pattern)) 8 1 ≡ false
meets_not = refl

meets_above : matches 8 (open_bits pattern) 8 0x19 ≡ false
meets_above = refl

open_in_braces : open_bits (concat here (more_expr pattern no_expr)) ≡ 0
open_in_braces = refl

open_after_plus : open_bits (one u.Plus pattern) ≡ 0
open_after_plus = refl

-- ---- Constants

constant_sum : is_constant (found things) (two b.Add (name (codes "P")) (plain 1)) ≡ true
constant_sum = refl

constant_copies : is_constant (found things) (repeat here (plain 2) (more_expr (name (codes "P")) no_expr)) ≡ true
constant_copies = refl

constant_log : is_constant (found things) (system clog2 (name (codes "P"))) ≡ true
constant_log = refl

constant_count : is_constant (found things) (repeat here a (more_expr (sized 1 false 1) no_expr)) ≡ false
constant_count = refl

constant_choice : is_constant (found things) (choose (more_choice (plain 1) here (plain 2) no_choice) a) ≡ false
constant_choice = refl

constant_right : is_constant (found things) (two b.Add (plain 1) a) ≡ false
constant_right = refl

constant_call : is_constant (found things) (call (codes "f") ((plain 1) ∷ [])) ≡ false
constant_call = refl

constant_word : is_constant (found things) (of (codes "m") (index (plain 4))) ≡ false
constant_word = refl

constant_unknown : is_constant (found things) (name (codes "w")) ≡ false
constant_unknown = refl

constant_within : is_constant (found things) (system clog2 (system to_unsigned (plain 1))) ≡ false
constant_within = refl

constant_bit : is_constant (found things) (of (codes "P") (index (plain 0))) ≡ true
constant_bit = refl

-- ---- What is read

abbrev bits_of : Text → ℕ → List Reading
bits_of t zero = []
bits_of t (suc n) = bits_of t n ++ bit (path t) n ∷ []

reads_part : reads (found things) (of (codes "v") (part (plain 5) (plain 4))) ≡ bit (path (codes "v")) 4 ∷ bit (path (codes "v")) 5 ∷ []
reads_part = refl

reads_left_part : reads (found things) (of (codes "u") (part (plain 3) (plain 4))) ≡ bit (path (codes "u")) 3 ∷ bit (path (codes "u")) 4 ∷ []
reads_left_part = refl

reads_left : reads (found things) (of (codes "u") (upward (plain 0) (plain 2))) ≡ bit (path (codes "u")) 6 ∷ bit (path (codes "u")) 7 ∷ []
reads_left = refl

reads_downward : reads (found things) (of (codes "v") (downward (plain 7) (plain 2))) ≡ bit (path (codes "v")) 6 ∷ bit (path (codes "v")) 7 ∷ []
reads_downward = refl

reads_partly_outside : reads (found things) (of (codes "v") (upward (plain 6) (plain 4))) ≡ bit (path (codes "v")) 6 ∷ bit (path (codes "v")) 7 ∷ []
reads_partly_outside = refl

reads_outside : reads (found things) (of (codes "v") (index (plain 8))) ≡ []
reads_outside = refl

reads_constant_bit : reads (found things) (of (codes "v") (index (name (codes "P")))) ≡ bit (path (codes "v")) 3 ∷ []
reads_constant_bit = refl

reads_any_bit : reads (found things) (of (codes "v") (index a)) ≡ bits_of (codes "v") 8 ++ bits_of (codes "a") 4
reads_any_bit = refl

reads_any_part : reads (found things) (of (codes "v") (upward a (plain 2))) ≡ bits_of (codes "v") 8 ++ bits_of (codes "a") 4
reads_any_part = refl

reads_cast_index : reads (found things) (of (codes "v") (index (system to_unsigned (plain 2)))) ≡ bits_of (codes "v") 8
reads_cast_index = refl

reads_word : reads (found things) (of (codes "m") (index (name (codes "P")))) ≡ words (path (codes "m")) ∷ []
reads_word = refl

reads_any_word : reads (found things) (read (build.named (codes "m")) (more_select here (index a) (more_select here (index (plain 1)) no_select))) ≡ words (path (codes "m")) ∷ bits_of (codes "a") 4
reads_any_word = refl

reads_call : reads (found things) (call (codes "f") (a ∷ [])) ≡ bits_of (codes "a") 4
reads_call = refl

reads_copies : reads (found things) (repeat here (name (codes "P")) (more_expr a no_expr)) ≡ bits_of (codes "a") 4
reads_copies = refl

reads_choice : reads (found things) (choose (more_choice a here (of (codes "v") (index (plain 0))) no_choice) (of (codes "v") (index (plain 1)))) ≡ bits_of (codes "a") 4 ++ (bit (path (codes "v")) 0 ∷ bit (path (codes "v")) 1 ∷ [])
reads_choice = refl

reads_constant : reads (found things) (name (codes "P")) ≡ []
reads_constant = refl

-- ---- Paths: a label that reads like an unnamed block or like a turn is another step, and turns differ by their value

label_and_number : same_path (named (codes "genblk1") ∷ []) (unnamed 1 None ∷ []) ≡ false
label_and_number = refl

label_and_turn : same_path (named (codes "g[0]") ∷ []) (turn (codes "g") (pos 0) ∷ []) ≡ false
label_and_turn = refl

turns_differ : same_path (turn (codes "g") (pos 0) ∷ []) (turn (codes "g") (negsuc 0) ∷ []) ≡ false
turns_differ = refl

labels_differ : same_path (turn (codes "g") (pos 0) ∷ []) (turn (codes "h") (pos 0) ∷ []) ≡ false
labels_differ = refl

turns_equal : same_path (turn (codes "g") (negsuc 0) ∷ []) (turn (codes "g") (negsuc 0) ∷ []) ≡ true
turns_equal = refl

unnamed_turn : same_path (unnamed 1 None ∷ []) (unnamed 1 (Some (pos 0)) ∷ []) ≡ false
unnamed_turn = refl

unnamed_equal : same_path (unnamed 1 (Some (negsuc 0)) ∷ []) (unnamed 1 (Some (negsuc 0)) ∷ []) ≡ true
unnamed_equal = refl

prefix_differs : same_path (path (codes "a")) (named (codes "a") ∷ named (codes "b") ∷ []) ≡ false
prefix_differs = refl
