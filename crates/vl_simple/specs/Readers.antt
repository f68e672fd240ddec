-- What the readers of statements and of their parts answer (IEEE 1364-2005, A.6, for the rules; the answers are this project's own).
use Rattle.std.specs.Prelude.{ℕ, ◌+◌, ◌≡◌, Bool, true, false, List, ◌∷◌, Option, Result}
use Rattle.std.specs.Option.{option_map}
use Rattle.vl_tree.specs.declared.token.Mark.TheVariants as m
use Rattle.vl_tree.specs.declared.expression.Name as name_code
use Rattle.vl_tree.specs.declared.expression.Expr as expr_code
use Rattle.vl_tree.specs.declared.item.Valued as valued_code
use Rattle.vl_tree.specs.Token.{Kind}
use Rattle.vl_tree.specs.Token as k
use Rattle.vl_tree.specs.Syntax.{Place, Expr}
use Rattle.vl_tree.specs.SyntaxView.{name, expr, valued}
use Rattle.vl_tree.specs.Placed.{Placed, at}
use Rattle.vl_tree.specs.Piece.{Piece, in_parens, name_at}
use Rattle.vl_tree.specs.Expressions.{expr_at}
use Rattle.vl_tree.specs.Statements.{label_at}
use Rattle.vl_tree.specs.Modules.{valued_at}
use Rattle.vl_tree.specs.Depth.{name_depth, expr_depths, valued_depths, label_depths, enclosed}
use Rattle.vl_read.specs.declared.fault.Fault.{Fault}
use Rattle.vl_read.specs.Reading.{Reads, Any}
use Rattle.vl_read.specs.Tokens.{Not}
use Rattle.vl_expr.specs.Ends.{EndsExpr}

-- no colon comes next
abbrev pub NoColon : List Placed → Type 0
NoColon = Not (k.mark m.Colon)

-- an expression in parentheses
abbrev pub grouped_at : Expr → Piece
grouped_at e = in_parens (expr_at e)

-- its depths
abbrev pub grouped_depths : ℕ → Expr → List ℕ
grouped_depths d e = enclosed d (expr_depths (d + 1) e)

-- a token of this kind comes first, with the tokens after it, or it doesn't
abbrev pub FindsOptional : Kind → List Placed → Bool × List Placed → Type 0
FindsOptional a ts (true, rest) = (p : Place) × (ts ≡ at a p ∷ rest)
FindsOptional a ts (false, rest) = Not a ts × (ts ≡ rest)

-- a name
abbrev pub ReadsName : ℕ → List Placed → Result (name_code.Name × List Placed) Fault → Type 0
ReadsName d ts r = Reads name name_at (name_depth d) Any Any ts r

-- a name and its value
abbrev pub ReadsValued : ℕ → List Placed → Result (valued_code.Valued × List Placed) Fault → Type 0
ReadsValued d ts r = Reads valued valued_at (valued_depths d) EndsExpr EndsExpr ts r

-- an expression in parentheses
abbrev pub ReadsGrouped : ℕ → List Placed → Result (expr_code.Expr × List Placed) Fault → Type 0
ReadsGrouped d ts r = Reads expr grouped_at (grouped_depths d) Any Any ts r

-- a label, if there is one
abbrev pub ReadsLabel : ℕ → List Placed → Result (Option name_code.Name × List Placed) Fault → Type 0
ReadsLabel d ts r = Reads (option_map name) label_at (label_depths d) NoColon NoColon ts r
