-- What the readers of connections and of headers answer (IEEE 1364-2005, A.1.3 and A.4.1, for the rules; the answers are this project's own).
use Rattle.std.specs.Prelude.{ℕ, ◌+◌, ◌++◌, ◌∷◌, [], ◌≡◌, List, Option, Some, None, Result, map}
use Rattle.std.specs.Option.{option_map}
use Rattle.dt_core.specs.declared.place.Place as place_code
use Rattle.vl_tree.specs.declared.expression.Expr as expr_code
use Rattle.vl_tree.specs.declared.item.NamedBind as named_bind_code
use Rattle.vl_tree.specs.declared.item.Binds as binds_code
use Rattle.vl_tree.specs.declared.item.Instance as instance_code
use Rattle.vl_tree.specs.declared.item.Direction as direction_code
use Rattle.vl_tree.specs.declared.item.Kept as kept_code
use Rattle.vl_tree.specs.declared.item.Directed as directed_code
use Rattle.vl_tree.specs.declared.item.Port as port_code
use Rattle.vl_tree.specs.declared.item.HeaderParameter as header_code
use Rattle.vl_tree.specs.declared.token.Key.{Key}
use Rattle.vl_tree.specs.declared.token.Key.TheVariants as w
use Rattle.vl_tree.specs.declared.token.Mark.TheVariants as m
use Rattle.vl_tree.specs.Token.{Kind}
use Rattle.vl_tree.specs.Token as k
use Rattle.vl_tree.specs.Syntax.{Place, Range, Expr, Binds, Event, any_read, any_read_list}
use Rattle.vl_tree.specs.Syntax as t
use Rattle.vl_tree.specs.SyntaxView.{place, expr, named_bind, binds, instance, direction, kept, directed, port, header_parameter}
use Rattle.vl_tree.specs.Placed.{Placed, at}
use Rattle.vl_tree.specs.Piece.{Piece, ◌then◌, nowhere, mark, in_parens, maybe, commas}
use Rattle.vl_tree.specs.Expressions.{expr_at}
use Rattle.vl_tree.specs.Modules.{named_bind_at, binds_at, instance_at}
use Rattle.vl_tree.specs.Modules.{direction_word, directed_at, port_at, named_port_at, ports_at, header_parameter_at, header_parameters_at}
use Rattle.vl_tree.specs.Depth.{expr_depths, depths_of, comma_depths, named_bind_depths, binds_depths, instance_depths, parameter_binds_depths}
use Rattle.vl_tree.specs.Depth.{directed_depths, port_depths, header_parameter_depths, header_parameters_depths}
use Rattle.vl_read.specs.declared.fault.Fault.{Fault}
use Rattle.vl_read.specs.Reading.{Reads, Any}
use Rattle.vl_read.specs.Tokens.{Not}
use Rattle.vl_read.specs.Commas.{EndsCommas}
use Rattle.vl_expr.specs.Ends.{EndsExpr}
use Rattle.vl_declaration.specs.Readers.{NoShape}

-- ---- connections and values of parameters (A.4.1)

-- an expression, if there is one, and the `)` after it
abbrev pub closed_at : Option Expr → Piece
closed_at o = maybe expr_at o then mark m.CloseParen

abbrev pub closed_depths : ℕ → Option Expr → List ℕ
closed_depths d o = depths_of expr_depths (d + 1) o ++ (d ∷ [])

abbrev pub ReadsClosed : ℕ → List Placed → Result (Option expr_code.Expr × List Placed) Fault → Type 0
ReadsClosed d ts r = Reads (option_map expr) closed_at (closed_depths d) Any Any ts r

abbrev pub ReadsNamedBind : ℕ → List Placed → Result (named_bind_code.NamedBind × List Placed) Fault → Type 0
ReadsNamedBind d ts r = Reads named_bind named_bind_at (named_bind_depths d) Any Any ts r

-- binds, if there are some, and the `)` after them
abbrev pub closed_binds_at : Option Binds → Piece
closed_binds_at o = maybe binds_at o then mark m.CloseParen

abbrev pub closed_binds_depths : ℕ → Option Binds → List ℕ
closed_binds_depths d o = depths_of binds_depths (d + 1) o ++ (d ∷ [])

abbrev pub ReadsClosedBinds : ℕ → List Placed → Result (Option binds_code.Binds × List Placed) Fault → Type 0
ReadsClosedBinds d ts r = Reads (option_map binds) closed_binds_at (closed_binds_depths d) Any Any ts r

abbrev pub ReadsInstance : ℕ → List Placed → Result (instance_code.Instance × List Placed) Fault → Type 0
ReadsInstance d ts r = Reads instance instance_at (instance_depths d) Any Any ts r

-- the values of parameters, if there is a #(..)
abbrev pub parameter_binds_at : Option (Option Binds) → Piece
parameter_binds_at = maybe (λ x. mark m.Hash then in_parens (maybe binds_at x))

abbrev pub NoHash : List Placed → Type 0
NoHash = Not (k.mark m.Hash)

abbrev pub ReadsParameterBinds : ℕ → List Placed → Result (Option (Option binds_code.Binds) × List Placed) Fault → Type 0
ReadsParameterBinds d ts r =
    Reads (option_map (option_map binds)) parameter_binds_at (depths_of parameter_binds_depths d) NoHash NoHash ts r

-- ---- directions, ports and parameters of a header (A.1.3, A.2.1.2)

-- the direction that comes first, its place and the tokens after it, or that none comes
abbrev pub FindsDirection : List Placed → Option (direction_code.Direction × place_code.Place × List Placed) → Type 0
FindsDirection ts (Some x) = ts ≡ at (k.key (direction_word (direction x.0))) (place x.1) ∷ x.2
FindsDirection ts None = Not (k.key w.Input) ts × Not (k.key w.Output) ts

abbrev pub kept_word : t.Kept → Key
kept_word t.wire = w.Wire
kept_word t.reg = w.Reg

abbrev pub NoKept : List Placed → Type 0
NoKept ts = Not (k.key w.Wire) ts × Not (k.key w.Reg) ts

-- `wire` or `reg` and the tokens after it, or that neither comes
abbrev pub FindsKept : List Placed → Option kept_code.Kept × List Placed → Type 0
FindsKept ts (Some x, rest) = (p : Place) × (ts ≡ at (k.key (kept_word (kept x))) p ∷ rest)
FindsKept ts (None, rest) = NoKept ts × (ts ≡ rest)

-- nothing comes next with which a declaration of a direction goes on
abbrev pub NoDirected : List Placed → Type 0
NoDirected ts = NoKept ts × NoShape ts

abbrev pub ReadsDirected : ℕ → List Placed → Result (directed_code.Directed × List Placed) Fault → Type 0
ReadsDirected d ts r = Reads directed directed_at (directed_depths d) NoDirected NoDirected ts r

abbrev pub ReadsPort : ℕ → List Placed → Result (port_code.Port × List Placed) Fault → Type 0
ReadsPort d ts r = Reads port port_at (port_depths d) Any Any ts r

abbrev pub ReadsNamedPort : ℕ → List Placed → Result (port_code.Port × List Placed) Fault → Type 0
ReadsNamedPort d ts r = Reads port named_port_at (port_depths d) Any Any ts r

-- the ports of a header, and the `)` after them
abbrev pub closed_ports_at : List t.Port → Piece
closed_ports_at ps = ports_at ps then mark m.CloseParen

abbrev pub closed_ports_depths : ℕ → List t.Port → List ℕ
closed_ports_depths d ps = comma_depths port_depths (d + 1) ps ++ (d ∷ [])

abbrev pub ReadsClosedPorts : ℕ → List Placed → Result (List port_code.Port × List Placed) Fault → Type 0
ReadsClosedPorts d ts r = Reads (map port) closed_ports_at (closed_ports_depths d) Any Any ts r

abbrev pub ReadsHeaderParameter : ℕ → List Placed → Result (header_code.HeaderParameter × List Placed) Fault → Type 0
ReadsHeaderParameter d ts r = Reads header_parameter header_parameter_at (header_parameter_depths d) EndsExpr EndsExpr ts r

-- parameters of a header, of which the first has the word `parameter`
abbrev pub header_list_at : List t.HeaderParameter → Piece
header_list_at [] = nowhere
header_list_at (t.declared_parameter p s r n e ∷ more) = commas header_parameter_at (t.declared_parameter p s r n e ∷ more)
header_list_at (t.next_parameter n e ∷ more) = nowhere

abbrev pub ReadsHeaderList : ℕ → List Placed → Result (List header_code.HeaderParameter × List Placed) Fault → Type 0
ReadsHeaderList d ts r =
    Reads (map header_parameter) header_list_at (comma_depths header_parameter_depths d) (EndsCommas EndsExpr) (EndsCommas EndsExpr) ts r

abbrev pub ReadsHeaderParameters : ℕ → List Placed → Result (List header_code.HeaderParameter × List Placed) Fault → Type 0
ReadsHeaderParameters d ts r = Reads (map header_parameter) header_parameters_at (header_parameters_depths d) NoHash NoHash ts r
