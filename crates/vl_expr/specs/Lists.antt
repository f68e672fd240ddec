-- The lists of an expression as the readers make them: parts of the grammar's rules that one reader reads at a time, and the lists of
-- the program that are read so far with what comes after them. This project's own.
use Rattle.std.specs.Prelude.{ℕ, ◌+◌, ◌≡◌, List, [], ◌∷◌, ◌++◌, Option, Some, None}
use Rattle.vl_tree.specs.declared.token.Mark.TheVariants as m
use Rattle.vl_tree.specs.declared.expression.Expr as code
use Rattle.vl_tree.specs.declared.expression.Link.{Link}
use Rattle.vl_tree.specs.declared.expression.Choice.{Choice}
use Rattle.vl_tree.specs.declared.expression.Selected.{Selected}
use Rattle.vl_tree.specs.Syntax.{Place, Expr, chain, choose, concat, repeat, read, call}
use Rattle.vl_tree.specs.Syntax.{Exprs, no_expr, more_expr, Links, no_link, more_link, Choices, no_choice, more_choice}
use Rattle.vl_tree.specs.Syntax.{Selects, more_select, Select, index, part, upward, downward}
use Rattle.vl_tree.specs.SyntaxView as view
use Rattle.vl_tree.specs.Piece.{Piece, ◌then◌, nothing, nowhere, given, mark, in_parens}
use Rattle.vl_tree.specs.Expressions.{expr_at, exprs_at, more_exprs_at, choices_at, selects_at, below}
use Rattle.vl_tree.specs.Depth.{expr_depths, exprs_depths, more_exprs_depths, choices_depths, selects_depths, enclosed}
use Rattle.vl_expr.specs.declared.operators.Separator.{Separator}
use Rattle.vl_expr.specs.declared.operators.Separator.TheVariants as sep
use Rattle.vl_expr.specs.Ends.{separator_mark}

-- ---- lists of the program

-- expressions
abbrev pub exprs_of : List code.Expr → Exprs
exprs_of [] = no_expr
exprs_of (e ∷ es) = more_expr (view.expr e) (exprs_of es)

-- operators with their right operands
abbrev pub links_of : List (Link code.Expr) → Links
links_of [] = no_link
links_of (l ∷ ls) = more_link l.operator (view.place l.place) (view.expr l.operand) (links_of ls)

-- choices
abbrev pub choices_of : List (Choice code.Expr) → Choices
choices_of [] = no_choice
choices_of (c ∷ cs) = more_choice (view.expr c.condition) (view.place c.place) (view.expr c.value) (choices_of cs)

-- expressions so far, and those after them
abbrev pub exprs_on : List code.Expr → Exprs → Exprs
exprs_on [] es = es
exprs_on (e ∷ more) es = more_expr (view.expr e) (exprs_on more es)

-- operators so far, and those after them
abbrev pub links_on : List (Link code.Expr) → Links → Links
links_on [] ls = ls
links_on (l ∷ more) ls = more_link l.operator (view.place l.place) (view.expr l.operand) (links_on more ls)

-- choices so far, and those after them
abbrev pub choices_on : List (Choice code.Expr) → Choices → Choices
choices_on [] cs = cs
choices_on (c ∷ more) cs = more_choice (view.expr c.condition) (view.place c.place) (view.expr c.value) (choices_on more cs)

-- selects so far, and those after them
abbrev pub selects_on : List (Selected code.Expr) → Selects → Selects
selects_on [] ss = ss
selects_on (s ∷ more) ss = more_select (view.place s.place) (view.read_select s.select) (selects_on more ss)

-- ---- parts of rules

-- an operand with the operators after it
abbrev pub linked : Expr → Links → Expr
linked e no_link = e
linked e (more_link op p x ls) = chain e (more_link op p x ls)

-- choices with a last value
abbrev pub chosen : Choices → Expr → Expr
chosen no_choice e = e
chosen (more_choice c p v cs) e = choose (more_choice c p v cs) e

-- the choices of an expression and its last value
abbrev pub tail_at : Choices × Expr → Piece
tail_at x = choices_at x.0 then below 11 x.1

-- their depths
abbrev pub tail_depths : ℕ → Choices × Expr → List ℕ
tail_depths d x = choices_depths d x.0 ++ expr_depths d x.1

-- their plain trees
abbrev pub tail_of : List (Choice code.Expr) × code.Expr → Choices × Expr
tail_of x = (choices_of x.0, view.expr x.1)

-- a list of expressions that begins with this one, from after it on
abbrev pub list_after : Expr → Exprs → Piece
list_after e no_expr = nowhere
list_after e (more_expr f es) = given (f ≡ e) (more_exprs_at es)

-- the depths of what comes after the first
abbrev pub list_after_depths : ℕ → Exprs → List ℕ
list_after_depths d no_expr = []
list_after_depths d (more_expr f es) = more_exprs_depths d es

-- what stands after the first expression of a select: nothing, or a separator and another expression
abbrev pub second_at : Option (Separator × Expr) → Piece
second_at None = nothing
second_at (Some x) = mark (separator_mark x.0) then expr_at x.1

-- its depths
abbrev pub second_depths : ℕ → Option (Separator × Expr) → List ℕ
second_depths d None = []
second_depths d (Some x) = d ∷ expr_depths d x.1

-- a select of its parts
abbrev pub select_of : Expr → Option (Separator × Expr) → Select
select_of a None = index a
select_of a (Some (sep.Part, b)) = part a b
select_of a (Some (sep.Upward, b)) = upward a b
select_of a (Some (sep.Downward, b)) = downward a b

-- an expression in braces with this place, from after its `{` on
abbrev pub braces_at : Place → Expr → Piece
braces_at p (concat q es) = given (q ≡ p) (exprs_at es then mark m.CloseBrace)
braces_at p (repeat q n es) = given (q ≡ p)
    (expr_at n then mark m.OpenBrace then exprs_at es then mark m.CloseBrace then mark m.CloseBrace)
braces_at p e = nowhere

-- its depths
abbrev pub braces_depths : ℕ → Expr → List ℕ
braces_depths d (concat q es) = exprs_depths (d + 1) es ++ (d ∷ [])
braces_depths d (repeat q n es) = (expr_depths (d + 1) n ++ enclosed (d + 1) (exprs_depths (d + 1 + 1) es)) ++ (d ∷ [])
braces_depths d e = []

-- a name's expression, of this name at this place, from after the name on
abbrev pub named_at : List ℕ → Place → Expr → Piece
named_at t p (read n ss) = given ((n.text ≡ t) × (n.place ≡ p)) (selects_at ss)
named_at t p (call n es) = given ((n.text ≡ t) × (n.place ≡ p)) (in_parens (exprs_at es))
named_at t p e = nowhere

-- its depths
abbrev pub named_depths : ℕ → Expr → List ℕ
named_depths d (read n ss) = selects_depths d ss
named_depths d (call n es) = enclosed d (exprs_depths (d + 1) es)
named_depths d e = []
