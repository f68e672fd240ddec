-- What the readers of parts of declarations answer (IEEE 1364-2005, A.2, for the rules; the answers are this project's own).
use Rattle.std.specs.Prelude.{ℕ, ◌+◌, ◌++◌, ◌∷◌, [], ◌≡◌, Bool, true, false, List, Option, Some, None, Result, map}
use Rattle.std.specs.Option.{option_map}
use Rattle.dt_core.specs.declared.place.Place as place_code
use Rattle.vl_tree.specs.declared.expression.Range as range_code
use Rattle.vl_tree.specs.declared.expression.Expr as expr_code
use Rattle.vl_tree.specs.declared.item.Net as net_code
use Rattle.vl_tree.specs.declared.item.Variable as variable_code
use Rattle.vl_tree.specs.declared.item.Driven as driven_code
use Rattle.vl_tree.specs.declared.item.Edge as edge_code
use Rattle.vl_tree.specs.declared.item.Sensed as sensed_code
use Rattle.vl_tree.specs.declared.item.Event as event_code
use Rattle.vl_tree.specs.declared.token.Key.TheVariants as w
use Rattle.vl_tree.specs.declared.token.Mark.TheVariants as m
use Rattle.vl_tree.specs.Token.{Kind}
use Rattle.vl_tree.specs.Token as k
use Rattle.vl_tree.specs.Syntax.{Place, Range, Expr, Binds, Event, any_read, any_read_list}
use Rattle.vl_tree.specs.Syntax as t
use Rattle.vl_tree.specs.SyntaxView.{place, range, expr, net, variable, driven, edge, sensed, event}
use Rattle.vl_tree.specs.Placed.{Placed, at}
use Rattle.vl_tree.specs.Piece.{Piece, ◌then◌, nowhere, kind_at, mark, in_parens, maybe}
use Rattle.vl_tree.specs.Expressions.{expr_at, range_at}
use Rattle.vl_tree.specs.Modules.{type_at, net_at, variable_at, driven_at, edge_at, sensed_at, separator_at, sensed_list_at, event_at}
use Rattle.vl_tree.specs.Depth.{range_depths, depths_of, type_depths, value_depths, net_depths, variable_depths, driven_depths, edge_depths, sensed_depths, event_depths, comma_depths, enclosed}
use Rattle.vl_read.specs.declared.fault.Fault.{Fault}
use Rattle.vl_read.specs.Reading.{Reads, Any}
use Rattle.vl_read.specs.Tokens.{Not, one_deep}
use Rattle.vl_expr.specs.Ends.{EndsExpr}
use Rattle.vl_declaration.specs.declared.range.Shape.{Shape}

-- a token of this kind and its place, at this depth
abbrev pub ReadsToken : Kind → ℕ → List Placed → Result (place_code.Place × List Placed) Fault → Type 0
ReadsToken a d ts r = Reads place (kind_at a) (one_deep d) Any Any ts r

-- no range comes next
abbrev pub NoRange : List Placed → Type 0
NoRange = Not (k.mark m.OpenBracket)

-- a range, if there is one
abbrev pub ReadsRange : ℕ → List Placed → Result (Option range_code.Range × List Placed) Fault → Type 0
ReadsRange d ts r = Reads (option_map range) (maybe range_at) (depths_of range_depths d) NoRange NoRange ts r

-- a token of this kind comes first, with the tokens after it, or it doesn't
abbrev pub FindsFlag : Kind → List Placed → Bool × List Placed → Type 0
FindsFlag a ts (true, rest) = (p : Place) × (ts ≡ at a p ∷ rest)
FindsFlag a ts (false, rest) = Not a ts × (ts ≡ rest)

-- the sign and the range of a declaration (A.2.1.1)
abbrev pub shape : Shape → Bool × Option Range
shape s = (s.signed, option_map range s.range)

abbrev pub shape_at : Bool × Option Range → Piece
shape_at x = type_at x.0 x.1

abbrev pub shape_depths : ℕ → Bool × Option Range → List ℕ
shape_depths d x = type_depths d x.0 x.1

-- neither a sign nor a range comes next
abbrev pub NoShape : List Placed → Type 0
NoShape ts = Not (k.key w.Signed) ts × NoRange ts

abbrev pub ReadsShape : ℕ → List Placed → Result (Shape × List Placed) Fault → Type 0
ReadsShape d ts r = Reads shape shape_at (shape_depths d) NoShape NoShape ts r

-- `=` and a value, if they are there
abbrev pub value_at : Option Expr → Piece
value_at = maybe (λ e. mark m.Equals then expr_at e)

-- no value comes next, and nothing with which one goes on
abbrev pub NoValue : List Placed → Type 0
NoValue ts = Not (k.mark m.Equals) ts × EndsExpr ts

abbrev pub ReadsValue : ℕ → List Placed → Result (Option expr_code.Expr × List Placed) Fault → Type 0
ReadsValue d ts r = Reads (option_map expr) value_at (depths_of value_depths d) NoValue NoValue ts r

-- a net (A.2.3), a variable (A.2.2.1), what an `assign` drives (A.6.1)
abbrev pub ReadsNet : ℕ → List Placed → Result (net_code.Net × List Placed) Fault → Type 0
ReadsNet d ts r = Reads net net_at (net_depths d) NoValue NoValue ts r

abbrev pub ReadsVariable : ℕ → List Placed → Result (variable_code.Variable × List Placed) Fault → Type 0
ReadsVariable d ts r = Reads variable variable_at (variable_depths d) NoValue NoValue ts r

abbrev pub ReadsDriven : ℕ → List Placed → Result (driven_code.Driven × List Placed) Fault → Type 0
ReadsDriven d ts r = Reads driven driven_at (driven_depths d) EndsExpr EndsExpr ts r

-- ---- what an `always` waits for (A.6.5)

-- neither `posedge` nor `negedge` comes next
abbrev pub NoEdge : List Placed → Type 0
NoEdge ts = Not (k.key w.Posedge) ts × Not (k.key w.Negedge) ts

abbrev pub ReadsEdge : ℕ → List Placed → Result (edge_code.Edge × List Placed) Fault → Type 0
ReadsEdge d ts r = Reads edge edge_at (edge_depths d) NoEdge NoEdge ts r

abbrev pub ReadsSensed : ℕ → List Placed → Result (sensed_code.Sensed × List Placed) Fault → Type 0
ReadsSensed d ts r = Reads sensed sensed_at (sensed_depths d) EndsExpr EndsExpr ts r

-- no separator of edges comes next, and nothing with which an expression goes on
abbrev pub EndsSensed : List Placed → Type 0
EndsSensed ts = Not (k.key w.Or) ts × Not (k.mark m.Comma) ts × EndsExpr ts

-- the token after a separator of edges, or that none comes
abbrev pub FindsSeparator : List Placed → Option (List Placed) → Type 0
FindsSeparator ts (Some rest) = separator_at ts rest
FindsSeparator ts None = Not (k.key w.Or) ts × Not (k.mark m.Comma) ts

abbrev pub ReadsSensedList : ℕ → List Placed → Result (List sensed_code.Sensed × List Placed) Fault → Type 0
ReadsSensedList d ts r = Reads (map sensed) sensed_list_at (comma_depths sensed_depths d) EndsSensed EndsSensed ts r

-- an event from after its `@` on
abbrev pub awaited_at : Event → Piece
awaited_at any_read = mark m.Star
awaited_at any_read_list = in_parens (mark m.Star)
awaited_at (t.sensed xs) = in_parens (sensed_list_at xs)

abbrev pub awaited_depths : ℕ → Event → List ℕ
awaited_depths d any_read = d ∷ []
awaited_depths d any_read_list = enclosed d ((d + 1) ∷ [])
awaited_depths d (t.sensed xs) = enclosed d (comma_depths sensed_depths (d + 1) xs)

-- an event in parentheses, from after `(` on
abbrev pub enclosed_event_at : Event → Piece
enclosed_event_at any_read = nowhere
enclosed_event_at any_read_list = mark m.Star then mark m.CloseParen
enclosed_event_at (t.sensed xs) = sensed_list_at xs then mark m.CloseParen

abbrev pub enclosed_event_depths : ℕ → Event → List ℕ
enclosed_event_depths d any_read = []
enclosed_event_depths d any_read_list = (d + 1) ∷ d ∷ []
enclosed_event_depths d (t.sensed xs) = comma_depths sensed_depths (d + 1) xs ++ (d ∷ [])

abbrev pub ReadsEvent : ℕ → List Placed → Result (event_code.Event × List Placed) Fault → Type 0
ReadsEvent d ts r = Reads event event_at (event_depths d) Any Any ts r

abbrev pub ReadsEnclosedEvent : ℕ → List Placed → Result (event_code.Event × List Placed) Fault → Type 0
ReadsEnclosedEvent d ts r = Reads event enclosed_event_at (enclosed_event_depths d) Any Any ts r
