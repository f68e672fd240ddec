-- The levels of marks and of other tokens.
use Rattle.std.proofs.Common.{◌≡◌, ◌≤◌, ℕ, refl, sym, ◌∙◌, ap, arith, ◌⊎◌, inl, inr}
use Rattle.std.specs.Prelude.{Some, None}
use Rattle.bit_ops.specs.declared.operator.Binary.{Binary}
use Rattle.bit_ops.specs.declared.operator.Binary.TheVariants as two
use Rattle.vl_tree.specs.declared.token.Mark.{Mark}
use Rattle.vl_tree.specs.declared.token.Mark.TheVariants as m
use Rattle.vl_tree.specs.declared.token.TokenKind.{TokenKind}
use Rattle.vl_tree.specs.declared.token.TokenKind.TheVariants as code
use Rattle.vl_tree.specs.Token.{coded_kind}
use Rattle.vl_tree.specs.Expressions.{binary_of, binary_level}
use Rattle.vl_expr.specs.Ends.{level_or, mark_level, next_level}

-- a mark has the level of its operator, or it has none
level_is : (b : Mark) → (mark_level b ≡ level_or (binary_of b)) ⊎ (binary_of b ≡ None) × ((mark_level b ≡ 0) ⊎ (mark_level b ≡ 11))
level_is m.OpenBracket = inr (refl, inl refl)
level_is m.OpenParen = inr (refl, inl refl)
level_is m.Question = inr (refl, inr refl)
level_is b = inl refl

level_none : (b : Mark) → binary_of b ≡ None
    → (mark_level b ≡ level_or (binary_of b)) ⊎ (binary_of b ≡ None) × ((mark_level b ≡ 0) ⊎ (mark_level b ≡ 11))
    → (n : ℕ) → 1 ≤ n → n ≤ 10 → mark_level b ≡ n → ⊥
level_none b e (inl h) n some most i = let j : mark_level b ≡ 12 = h ∙ ap level_or e in omega (arith, i, j, most)
level_none b e (inr (q, inl h)) n some most i = omega (arith, i, h, some)
level_none b e (inr (q, inr h)) n some most i = omega (arith, i, h, most)

pub no_level : (b : Mark) → binary_of b ≡ None → (n : ℕ) → 1 ≤ n → n ≤ 10 → mark_level b ≡ n → ⊥
no_level b e n some most i = level_none b e (level_is b) n some most i

operator_level_at : (b : Mark) (op : Binary) → binary_of b ≡ Some op
    → (mark_level b ≡ level_or (binary_of b)) ⊎ (binary_of b ≡ None) × ((mark_level b ≡ 0) ⊎ (mark_level b ≡ 11))
    → mark_level b ≡ binary_level op
operator_level_at b op e (inl h) = h ∙ ap level_or e
operator_level_at b op e (inr (q, h)) = let c : None ≡ Some op = sym q ∙ e in absurd cc

pub operator_level : (b : Mark) (op : Binary) → binary_of b ≡ Some op → mark_level b ≡ binary_level op
operator_level b op e = operator_level_at b op e (level_is b)

pub other_level : (a : TokenKind) → ((x : Mark) → a ≡ code.Mark x → ⊥) → next_level (coded_kind a) ≡ 12
other_level (code.Name x) f = refl
other_level (code.System s) f = refl
other_level (code.Number l) f = refl
other_level (code.Str s) f = refl
other_level (code.Key w) f = refl
other_level (code.Mark m) f = absurd (f m refl)

pub level_some : (op : Binary) → 1 ≤ binary_level op
level_some two.Mul = omega arith
level_some two.Div = omega arith
level_some two.Rem = omega arith
level_some two.Add = omega arith
level_some two.Sub = omega arith
level_some two.Shl = omega arith
level_some two.Shr = omega arith
level_some two.Sar = omega arith
level_some two.Lt = omega arith
level_some two.Le = omega arith
level_some two.Gt = omega arith
level_some two.Ge = omega arith
level_some two.Eq = omega arith
level_some two.Ne = omega arith
level_some two.And = omega arith
level_some two.Xor = omega arith
level_some two.Xnor = omega arith
level_some two.Or = omega arith
level_some two.LogicAnd = omega arith
level_some two.LogicOr = omega arith

pub level_most : (op : Binary) → binary_level op ≤ 10
level_most two.Mul = omega arith
level_most two.Div = omega arith
level_most two.Rem = omega arith
level_most two.Add = omega arith
level_most two.Sub = omega arith
level_most two.Shl = omega arith
level_most two.Shr = omega arith
level_most two.Sar = omega arith
level_most two.Lt = omega arith
level_most two.Le = omega arith
level_most two.Gt = omega arith
level_most two.Ge = omega arith
level_most two.Eq = omega arith
level_most two.Ne = omega arith
level_most two.And = omega arith
level_most two.Xor = omega arith
level_most two.Xnor = omega arith
level_most two.Or = omega arith
level_most two.LogicAnd = omega arith
level_most two.LogicOr = omega arith
