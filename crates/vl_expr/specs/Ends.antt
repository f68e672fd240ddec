-- What may come after an expression, so that it ends there. This project's own.
use Rattle.std.specs.Prelude.{ℕ, ◌≡◌, ◌≤◌, ◌<◌, List, [], ◌∷◌, Option, Some, None}
use Rattle.bit_ops.specs.declared.operator.Binary.{Binary}
use Rattle.dt_core.specs.declared.place.Place as place_code
use Rattle.vl_tree.specs.declared.token.Mark.{Mark}
use Rattle.vl_tree.specs.declared.token.Mark.TheVariants as m
use Rattle.vl_tree.specs.Token.{Kind}
use Rattle.vl_tree.specs.Token as k
use Rattle.vl_tree.specs.SyntaxView.{place}
use Rattle.vl_tree.specs.Placed.{Placed, at, kind_of}
use Rattle.vl_tree.specs.Expressions.{binary_of, binary_level}
use Rattle.vl_read.specs.Tokens.{Not}
use Rattle.vl_expr.specs.declared.operators.Separator.{Separator}
use Rattle.vl_expr.specs.declared.operators.Separator.TheVariants as sep

-- the level of an operator, if there is one; 12 else
abbrev pub level_or : Option Binary → ℕ
level_or None = 12
level_or (Some op) = binary_level op

-- the level at which a mark goes on with an expression: 0 for a select or arguments, the level of an operator, 11 for a choice,
-- 12 where it doesn't
abbrev pub mark_level : Mark → ℕ
mark_level m.OpenBracket = 0
mark_level m.OpenParen = 0
mark_level m.Question = 11
mark_level a = level_or (binary_of a)

-- the same for a token of this kind
abbrev pub next_level : Kind → ℕ
next_level (k.mark a) = mark_level a
next_level (k.number l) = 12
next_level (k.name n) = 12
next_level (k.system s) = 12
next_level (k.str s) = 12
next_level (k.key w) = 12

-- the same for what comes next
abbrev pub level_at : List Placed → ℕ
level_at [] = 12
level_at (a ∷ rest) = next_level (kind_of a)

-- nothing comes next with which an expression of a level below n goes on
abbrev pub Ends : ℕ → List Placed → Type 0
Ends n [] = Unit {0}
Ends n (a ∷ rest) = n ≤ next_level (kind_of a)

-- nothing comes next with which an expression goes on
abbrev pub EndsExpr : List Placed → Type 0
EndsExpr = Ends 12

-- nor does a comma
abbrev pub EndsList : List Placed → Type 0
EndsList ts = Not (k.mark m.Comma) ts × EndsExpr ts

-- no operator of this level comes next
abbrev pub NotAt : ℕ → List Placed → Type 0
NotAt n [] = Unit {0}
NotAt n (a ∷ rest) = next_level (kind_of a) ≡ n → ⊥

-- the operator of this level that a mark is, or that it is none
abbrev pub IsOperator : ℕ → Mark → Option Binary → Type 0
IsOperator n b (Some op) = (binary_of b ≡ Some op) × (binary_level op ≡ n)
IsOperator n b None = mark_level b ≡ n → ⊥

-- the operator of this level that comes first, its place and the tokens after it, or that none comes
abbrev pub FindsOperator : ℕ → List Placed → Option (Binary × place_code.Place × List Placed) → Type 0
FindsOperator n ts (Some x) = (b : Mark) × (binary_of b ≡ Some x.0) × (binary_level x.0 ≡ n)
    × (ts ≡ at (k.mark b) (place x.1) ∷ x.2)
FindsOperator n ts None = NotAt n ts

-- the level of what comes next, from the first number on and below the second, or that it is none of them
abbrev pub FindsLevel : ℕ → ℕ → List Placed → Option ℕ → Type 0
FindsLevel lower limit ts (Some n) = (level_at ts ≡ n) × (lower ≤ n) × (n < limit)
FindsLevel lower limit ts None = (n : ℕ) → lower ≤ n → n < limit → NotAt n ts

-- the mark of a separator (A.8.4)
abbrev pub separator_mark : Separator → Mark
separator_mark sep.Part = m.Colon
separator_mark sep.Upward = m.PlusColon
separator_mark sep.Downward = m.MinusColon

-- no separator comes next
abbrev pub NoSeparator : List Placed → Type 0
NoSeparator [] = Unit {0}
NoSeparator (a ∷ rest) = (s : Separator) → kind_of a ≡ k.mark (separator_mark s) → ⊥

-- neither does anything with which an expression goes on
abbrev pub EndsSelect : List Placed → Type 0
EndsSelect ts = NoSeparator ts × EndsExpr ts

-- the separator that comes first and the tokens after it, or that none comes
abbrev pub FindsSeparator : List Placed → Option (Separator × List Placed) → Type 0
FindsSeparator ts (Some x) = (p : _) × (ts ≡ at (k.mark (separator_mark x.0)) p ∷ x.1)
FindsSeparator ts None = NoSeparator ts
