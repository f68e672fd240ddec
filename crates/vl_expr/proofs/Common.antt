-- What comes after an expression, and an expression that stands for any other.
use Rattle.std.proofs.Common.{◌≡◌, ◌≤◌, ℕ, suc, List, [], ◌∷◌, refl, subst, arith, false}
use Rattle.vl_tree.specs.declared.token.Mark.TheVariants as m
use Rattle.vl_tree.specs.Token.{Literal}
use Rattle.vl_tree.specs.Token as k
use Rattle.vl_tree.specs.Syntax.{Place, Expr, number, no_expr, more_expr}
use Rattle.vl_tree.specs.Placed.{Placed, at}
use Rattle.vl_tree.specs.Expressions.{expr_at, exprs_at, more_exprs_at}
use Rattle.vl_read.specs.Tokens.{Not}
use Rattle.vl_read.proofs.Pieces.{Productive}
use Rattle.vl_read.proofs.TokenRules.{somewhere}
use Rattle.vl_expr.specs.declared.operators.Separator.{Separator}
use Rattle.vl_expr.specs.declared.operators.Separator.TheVariants as sep
use Rattle.vl_expr.specs.Ends.{separator_mark, next_level, level_at, Ends, EndsExpr, NotAt, EndsList, EndsSelect}

abbrev pub NB : List Placed → Type 0
NB = Not (k.mark m.OpenBracket)

-- ---- what comes next

pub ends_less : (n : ℕ) (z : List Placed) → Ends (suc n) z → Ends n z
ends_less n [] f = tt
ends_less n (a ∷ z) f = omega (arith, f)

pub ends_to : (n limit : ℕ) → n ≤ limit → (z : List Placed) → Ends limit z → Ends n z
ends_to n limit i [] f = tt
ends_to n limit i (a ∷ z) f = omega (arith, i, f)

pub not_at : (n : ℕ) (z : List Placed) → (level_at z ≡ n → ⊥) → NotAt n z
not_at n [] f = tt
not_at n (a ∷ z) f = f

pub ends_bracket : (z : List Placed) → Ends 1 z → NB z
ends_bracket [] f = tt
ends_bracket (at a p ∷ z) f = λ h. let i : 1 ≤ next_level (k.mark m.OpenBracket) = subst (λ w. 1 ≤ next_level w) h f in omega (arith, i)

pub ends_paren : (z : List Placed) → Ends 1 z → Not (k.mark m.OpenParen) z
ends_paren [] f = tt
ends_paren (at a p ∷ z) f = λ h. let i : 1 ≤ next_level (k.mark m.OpenParen) = subst (λ w. 1 ≤ next_level w) h f in omega (arith, i)

pub ends_question : (z : List Placed) → EndsExpr z → Not (k.mark m.Question) z
ends_question [] f = tt
ends_question (at a p ∷ z) f = λ h. let i : 12 ≤ next_level (k.mark m.Question) = subst (λ w. 12 ≤ next_level w) h f in omega (arith, i)

pub list_ends : (z : List Placed) → EndsList z → EndsExpr z
list_ends z f = f.1

pub select_ends : (z : List Placed) → EndsSelect z → EndsExpr z
select_ends z f = f.1

pub close_ends : (p : Place) (z : List Placed) → EndsExpr (at (k.mark m.CloseParen) p ∷ z)
close_ends p z = omega arith

pub colon_ends : (p : Place) (z : List Placed) → EndsExpr (at (k.mark m.Colon) p ∷ z)
colon_ends p z = omega arith

pub comma_ends : (p : Place) (z : List Placed) → EndsExpr (at (k.mark m.Comma) p ∷ z)
comma_ends p z = omega arith

pub close_list : (p : Place) (z : List Placed) → EndsList (at (k.mark m.CloseParen) p ∷ z)
close_list p z = (λ h. absurd cc, omega arith)

pub brace_list : (p : Place) (z : List Placed) → EndsList (at (k.mark m.CloseBrace) p ∷ z)
brace_list p z = (λ h. absurd cc, omega arith)

pub brace_ends : (p : Place) (z : List Placed) → EndsExpr (at (k.mark m.CloseBrace) p ∷ z)
brace_ends p z = omega arith

pub open_brace_ends : (p : Place) (z : List Placed) → EndsExpr (at (k.mark m.OpenBrace) p ∷ z)
open_brace_ends p z = omega arith

bracket_no : (s : Separator) → k.mark m.CloseBracket ≡ k.mark (separator_mark s) → ⊥
bracket_no sep.Part h = absurd cc
bracket_no sep.Upward h = absurd cc
bracket_no sep.Downward h = absurd cc

pub bracket_ends : (p : Place) (z : List Placed) → EndsSelect (at (k.mark m.CloseBracket) p ∷ z)
bracket_ends p z = (λ s h. bracket_no s h, omega arith)

-- ---- an expression that stands for any other

abbrev pub zero_literal : Literal
zero_literal = record { width = 1; sized = false; signed = false; value = 0; wild = 0 }

abbrev pub some_number : Expr
some_number = number somewhere zero_literal

pub some_expr : (F : List Placed → Type 0) → Productive expr_at F
some_expr F z f = (some_number, at (k.number zero_literal) somewhere ∷ z, refl)

pub some_list : (F : List Placed → Type 0) → Productive exprs_at F
some_list F z f = (more_expr some_number no_expr, at (k.number zero_literal) somewhere ∷ z, (z, refl, refl))

pub some_more : (F : List Placed → Type 0) → Productive more_exprs_at F
some_more F z f = (no_expr, z, refl)
