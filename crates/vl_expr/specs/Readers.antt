-- What the readers of parts of an expression answer. This project's own.
use Rattle.std.specs.Prelude.{ℕ, ◌≡◌, ◌+◌, List, ◌∷◌, Some, Result}
use Rattle.bit_ops.specs.declared.operator.Unary.{Unary}
use Rattle.vl_tree.specs.declared.token.Mark.{Mark}
use Rattle.vl_tree.specs.declared.token.Mark.TheVariants as m
use Rattle.vl_tree.specs.declared.expression.Expr as code
use Rattle.vl_tree.specs.declared.expression.Selected.{Selected}
use Rattle.vl_tree.specs.Token.{Kind}
use Rattle.vl_tree.specs.Token as k
use Rattle.vl_tree.specs.Syntax.{Place, Expr, SystemFunction}
use Rattle.vl_tree.specs.SyntaxView.{expr, read_selects}
use Rattle.vl_tree.specs.Placed.{Placed, at}
use Rattle.vl_tree.specs.Expressions.{below, selects_at, unary_of, system_name}
use Rattle.vl_tree.specs.Depth.{expr_depths, selects_depths}
use Rattle.vl_read.specs.declared.fault.Fault.{Fault}
use Rattle.vl_read.specs.Reading.{Took, Reads}
use Rattle.vl_read.specs.Tokens.{Not}
use Rattle.vl_expr.specs.Ends.{Ends, EndsList}
use Rattle.vl_expr.specs.Lists.{exprs_of, list_after, list_after_depths, named_at, named_depths}

-- the expression of this name at this place, from after the name on, with selects or arguments
abbrev pub ReadsNamed : List ℕ → Place → ℕ → List Placed → Result (code.Expr × List Placed) Fault → Type 0
ReadsNamed t p d ts r = Reads expr (named_at t p) (named_depths d) (Ends 1) (Ends 1) ts r

-- the primary that begins with a token of this kind at this place, from after the token on
abbrev pub ReadsAfter : Kind → Place → ℕ → List Placed → Result (code.Expr × List Placed) Fault → Type 0
ReadsAfter a p d ts r = Reads expr (below 1) (expr_depths d) (Ends 1) (Ends 1) (at a p ∷ ts) r

-- the same where the token is the name of this function of the language
abbrev pub ReadsSystem : SystemFunction → Place → ℕ → List Placed → Result (code.Expr × List Placed) Fault → Type 0
ReadsSystem f = ReadsAfter (k.system (system_name f))

-- the same where it is a mark of this operator before its operand
abbrev pub ReadsUnary : Unary → Place → ℕ → List Placed → Result (code.Expr × List Placed) Fault → Type 0
ReadsUnary op p d ts r = (b : Mark) → unary_of b ≡ Some op → ReadsAfter (k.mark b) p d ts r

-- the list that begins with this expression, from after it on
abbrev pub ReadsMore : Expr → ℕ → List Placed → Result (List code.Expr × List Placed) Fault → Type 0
ReadsMore e d ts r = Reads exprs_of (list_after e) (list_after_depths d) EndsList EndsList ts r

-- The whole that begins with this expression, which stands before operators of this level: an expression of this level at most, wherever
-- that one began.
abbrev pub ReadsLinks : ℕ → ℕ → Expr → List Placed → Result (code.Expr × List Placed) Fault → Type 0
ReadsLinks n d e us r = (ts : List Placed) → Took (below n) (expr_depths d) (Ends n) (Ends n) e ts us
    → Reads expr (below (n + 1)) (expr_depths d) (Ends (n + 1)) (Ends (n + 1)) ts r

-- selects, after which no other comes
abbrev pub ReadsSelects : ℕ → List Placed → Result (List (Selected code.Expr) × List Placed) Fault → Type 0
ReadsSelects d ts r =
    Reads read_selects selects_at (selects_depths d) (Not (k.mark m.OpenBracket)) (Not (k.mark m.OpenBracket)) ts r
