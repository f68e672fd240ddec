-- Lists of the program's trees as plain trees. This project's own.
use Rattle.std.specs.Prelude.{List, [], ◌∷◌}
use Rattle.vl_tree.specs.declared.expression.Expr as code
use Rattle.vl_tree.specs.declared.expression.Link.{Link}
use Rattle.vl_tree.specs.declared.expression.Choice.{Choice}
use Rattle.vl_tree.specs.Syntax.{Exprs, no_expr, more_expr, Links, no_link, more_link, Choices, no_choice, more_choice}
use Rattle.vl_tree.specs.SyntaxView as view

-- expressions
abbrev pub exprs_of : List code.Expr → Exprs
exprs_of [] = no_expr
exprs_of (e ∷ es) = more_expr (view.expr e) (exprs_of es)

-- operators with their right operands
abbrev pub links_of : List (Link code.Expr) → Links
links_of [] = no_link
links_of (l ∷ ls) = more_link l.operator (view.place l.place) (view.expr l.operand) (links_of ls)

-- choices
abbrev pub choices_of : List (Choice code.Expr) → Choices
choices_of [] = no_choice
choices_of (c ∷ cs) = more_choice (view.expr c.condition) (view.place c.place) (view.expr c.value) (choices_of cs)
