-- The table of operators: how each takes its operands, and what its result's width is.
use Rattle.std.proofs.Common.{◌≡◌, ◌≤◌, ◌<◌, ◌^◌, refl, ℕ, Bool, false, arith}
use Rattle.bit_ops.specs.Applied.{unary_width, binary_width, binary, takes_one_width}
use Rattle.bit_ops.specs.declared.operator.Unary.{Unary}
use Rattle.bit_ops.specs.declared.operator.Unary.TheVariants as one
use Rattle.bit_ops.specs.declared.operator.Binary.{Binary}
use Rattle.bit_ops.specs.declared.operator.Binary.TheVariants as two
use Rattle.vl_value.specs.Meaning as m
use Rattle.vl_value.specs.Meaning.{Operands, operands_of, keeps_context}
use Rattle.vl_width.specs.Terms.{shift_at}
use Rattle.vl_width.proofs.Numbers.{fits_wider}

-- what an operator's row says of it
abbrev pub Row : Operands → Binary → Type 0
Row m.alike f = Unit {0}
Row m.compared f = (w : ℕ) → binary_width f w ≡ 1
Row m.shifted f = (s : Bool) (w a n : ℕ) → shift_at f s w a n ≡ binary f s w a n
Row m.judged f = (takes_one_width f ≡ false) × ((w : ℕ) → binary_width f w ≡ 1)

pub row : (f : Binary) → Row (operands_of f) f
row two.Mul = tt
row two.Div = tt
row two.Rem = tt
row two.Add = tt
row two.Sub = tt
row two.Shl = λ s w a n. refl
row two.Shr = λ s w a n. refl
row two.Sar = λ s w a n. refl
row two.Lt = λ w. refl
row two.Le = λ w. refl
row two.Gt = λ w. refl
row two.Ge = λ w. refl
row two.Eq = λ w. refl
row two.Ne = λ w. refl
row two.And = tt
row two.Xor = tt
row two.Xnor = tt
row two.Or = tt
row two.LogicAnd = (refl, λ w. refl)
row two.LogicOr = (refl, λ w. refl)

-- no result is wider than the operands
pub binary_most : (f : Binary) (w : ℕ) → 1 ≤ w → binary_width f w ≤ w
binary_most two.Mul w h = omega arith
binary_most two.Div w h = omega arith
binary_most two.Rem w h = omega arith
binary_most two.Add w h = omega arith
binary_most two.Sub w h = omega arith
binary_most two.Shl w h = omega arith
binary_most two.Shr w h = omega arith
binary_most two.Sar w h = omega arith
binary_most two.Lt w h = h
binary_most two.Le w h = h
binary_most two.Gt w h = h
binary_most two.Ge w h = h
binary_most two.Eq w h = h
binary_most two.Ne w h = h
binary_most two.And w h = omega arith
binary_most two.Xor w h = omega arith
binary_most two.Xnor w h = omega arith
binary_most two.Or w h = omega arith
binary_most two.LogicAnd w h = h
binary_most two.LogicOr w h = h

pub unary_most : (f : Unary) (w : ℕ) → 1 ≤ w → unary_width f w ≤ w
unary_most one.Plus w h = omega arith
unary_most one.Minus w h = omega arith
unary_most one.Not w h = omega arith
unary_most one.LogicNot w h = h
unary_most one.And w h = h
unary_most one.Nand w h = h
unary_most one.Or w h = h
unary_most one.Nor w h = h
unary_most one.Xor w h = h
unary_most one.Xnor w h = h

-- one bit results where the operand doesn't have the context's size
pub reduced : (f : Unary) → keeps_context f ≡ false → (w : ℕ) → unary_width f w ≡ 1
reduced one.Plus e w = absurd cc
reduced one.Minus e w = absurd cc
reduced one.Not e w = absurd cc
reduced one.LogicNot e w = refl
reduced one.And e w = refl
reduced one.Nand e w = refl
reduced one.Or e w = refl
reduced one.Nor e w = refl
reduced one.Xor e w = refl
reduced one.Xnor e w = refl

-- what an operator gives fits the operands' width
pub binary_fits : (f : Binary) (w v n : ℕ) → 1 ≤ w → v ≡ binary_width f w → n < 2 ^ v → n < 2 ^ w
binary_fits f w v n h e fits =
    let most : binary_width f w ≤ w = binary_most f w h in
    fits_wider v w n (omega (arith, e, most)) fits

pub unary_fits : (f : Unary) (w v n : ℕ) → 1 ≤ w → v ≡ unary_width f w → n < 2 ^ v → n < 2 ^ w
unary_fits f w v n h e fits =
    let most : unary_width f w ≤ w = unary_most f w h in
    fits_wider v w n (omega (arith, e, most)) fits
