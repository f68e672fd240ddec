-- Worked examples of the values of expressions, checked by hand against IEEE 1364-2005, clauses 5.4 and 5.5.
use Rattle.std.specs.Prelude.{◌≡◌, refl, ℕ, ◌-◌, ◌^◌, true, false, [], ◌∷◌, codes}
use Rattle.bit_ops.specs.Operators.{holds}
use Rattle.vl_tree.specs.declared.expr.Unary.TheVariants as one
use Rattle.vl_tree.specs.declared.expr.Binary.TheVariants as two
use Rattle.vl_tree.specs.Tree.{Primary, name, number, Expr, primary, unary, binary, input, output}
use Rattle.vl_tree.proofs.Counter.{plain_decimal, sized_decimal, four_bits}
use Rattle.vl_meaning.specs.Expression.{Context, own, assigned, meaning}
use Rattle.vl_meaning.specs.Run.{cell}

-- input a, b; output reg [3:0] r: a and b are 1, and r is n
abbrev where_r_is : ℕ → Context
where_r_is n = record {
  ports = input (codes "a") ∷ input (codes "b") ∷ output (codes "r") (plain_decimal 3) (plain_decimal 0) ∷ [];
  values = cell (codes "a") 1 ∷ cell (codes "b") 1 ∷ cell (codes "r") n ∷ [];
}

-- the value into a target of w bits, and at the expression's own width
abbrev into : ℕ → Expr → ℕ
into w e = assigned w (meaning (where_r_is 15) e)

abbrev alone : Expr → ℕ
alone e = own (meaning (where_r_is 15) e)

-- 4'sdN, and a plain decimal as a primary
abbrev signed_four : ℕ → Primary
signed_four n = number (record { width = 4; sized = true; signed = true; value = n; wild = 0 })

abbrev decimal_operand : ℕ → Primary
decimal_operand n = number (plain_decimal n)

abbrev a_name : Primary
a_name = name (codes "a")

abbrev b_name : Primary
b_name = name (codes "b")

abbrev r_name : Primary
r_name = name (codes "r")

-- ---- signs

-- 4'sd15 is -1, and extended by its sign; beside the unsigned 1'd0 it is 15
signed_alone : into 8 (primary (signed_four 15)) ≡ 255
signed_alone = refl

signed_beside_unsigned : into 8 (binary (signed_four 15) two.Add (number (sized_decimal 1 0))) ≡ 15
signed_beside_unsigned = refl

-- 4'sd15 + 4'sd0 is signed
signed_sum : into 8 (binary (signed_four 15) two.Add (signed_four 0)) ≡ 255
signed_sum = refl

-- both are -1 at 32 bits; with 4'd15 the comparison is unsigned
signed_equals : alone (binary (signed_four 15) two.Equal (decimal_operand 4294967295)) ≡ 1
signed_equals = refl

unsigned_differs : alone (binary (four_bits 15) two.Equal (decimal_operand 4294967295)) ≡ 0
unsigned_differs = refl

-- a name is unsigned: r is 15, and not -1
name_is_unsigned : alone (binary r_name two.Equal (decimal_operand 4294967295)) ≡ 0
name_is_unsigned = refl

-- a plain decimal is signed with 32 bits, so 4294967295 is -1
decimal_extended : into 64 (primary (decimal_operand 4294967295)) ≡ 2 ^ 64 - 1
decimal_extended = refl

decimal_at_its_width : into 32 (primary (decimal_operand 4294967295)) ≡ 4294967295
decimal_at_its_width = refl

-- ---- widths

-- a + b of one bit each, both 1: 0 at its own width, where a condition stands, and 2 into two bits
sum_of_condition : alone (binary a_name two.Add b_name) ≡ 0
sum_of_condition = refl

condition_fails : holds (alone (binary a_name two.Add b_name)) ≡ false
condition_fails = refl

sum_into_two_bits : into 2 (binary a_name two.Add b_name) ≡ 2
sum_into_two_bits = refl

-- r + 4'd1 with r = 15: the carry is kept in eight bits, and cut in four
carry_kept : into 8 (binary r_name two.Add (four_bits 1)) ≡ 16
carry_kept = refl

carry_cut : into 4 (binary r_name two.Add (four_bits 1)) ≡ 0
carry_cut = refl

-- r + 1 is 32 bits wide by its plain decimal
carry_of_wide_operand : alone (binary r_name two.Add (decimal_operand 1)) ≡ 16
carry_of_wide_operand = refl

-- a target that is narrower cuts: 8'd31 into four bits
cut_to_target : into 4 (primary (number (sized_decimal 8 31))) ≡ 15
cut_to_target = refl

-- ---- not

-- !r for r = 0 and r = 5; it is one bit, unsigned
not_zero : own (meaning (where_r_is 0) (unary one.LogicNot r_name)) ≡ 1
not_zero = refl

not_five : own (meaning (where_r_is 5) (unary one.LogicNot r_name)) ≡ 0
not_five = refl

not_is_unsigned : assigned 8 (meaning (where_r_is 0) (unary one.LogicNot r_name)) ≡ 1
not_is_unsigned = refl
