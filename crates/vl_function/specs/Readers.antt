-- What the readers of functions answer (IEEE 1364-2005, A.2.6 to A.2.8, for the rules; the answers are this project's own).
use Rattle.std.specs.Prelude.{ℕ, ◌+◌, ◌++◌, ◌∷◌, [], ◌≡◌, ◌⊎◌, Bool, true, false, List, Option, Some, None, Result, map}
use Rattle.std.specs.Option.{option_map}
use Rattle.dt_core.specs.declared.place.Place as place_code
use Rattle.vl_tree.specs.declared.expression.Range as range_code
use Rattle.vl_tree.specs.declared.expression.Expr as expr_code
use Rattle.vl_tree.specs.declared.expression.Name as name_code
use Rattle.vl_tree.specs.declared.item.Net as net_code
use Rattle.vl_tree.specs.declared.item.Variable as variable_code
use Rattle.vl_tree.specs.declared.item.Driven as driven_code
use Rattle.vl_tree.specs.declared.item.Edge as edge_code
use Rattle.vl_tree.specs.declared.item.Sensed as sensed_code
use Rattle.vl_tree.specs.declared.item.Event as event_code
use Rattle.vl_tree.specs.declared.item.NamedBind as named_bind_code
use Rattle.vl_tree.specs.declared.item.Binds as binds_code
use Rattle.vl_tree.specs.declared.item.Instance as instance_code
use Rattle.vl_tree.specs.declared.item.Direction as direction_code
use Rattle.vl_tree.specs.declared.item.FunctionType as function_type_code
use Rattle.vl_tree.specs.declared.item.FunctionPort as function_port_code
use Rattle.vl_tree.specs.declared.item.FunctionDeclaration as function_declaration_code
use Rattle.vl_tree.specs.declared.item.Function as function_code
use Rattle.vl_tree.specs.declared.statement.Stmt as stmt_code
use Rattle.vl_tree.specs.declared.item.Kept as kept_code
use Rattle.vl_tree.specs.declared.item.Directed as directed_code
use Rattle.vl_tree.specs.declared.item.Port as port_code
use Rattle.vl_tree.specs.declared.item.HeaderParameter as header_code
use Rattle.vl_tree.specs.declared.token.Key.{Key}
use Rattle.vl_tree.specs.declared.token.Key.TheVariants as w
use Rattle.vl_tree.specs.declared.token.Mark.{Mark}
use Rattle.vl_tree.specs.declared.token.Mark.TheVariants as m
use Rattle.vl_tree.specs.Token.{Kind}
use Rattle.vl_tree.specs.Token as k
use Rattle.vl_tree.specs.Syntax.{Place, Range, Expr, Binds, Event, any_read, any_read_list}
use Rattle.vl_tree.specs.Syntax as t
use Rattle.vl_tree.specs.SyntaxView.{place, range, expr, net, variable, driven, edge, sensed, event, named_bind, binds, instance, direction, kept, directed, port, header_parameter}
use Rattle.vl_tree.specs.SyntaxView.{function_type, function_port, function_declaration, function, stmt, name}
use Rattle.vl_tree.specs.Placed.{Placed, at, kind_of}
use Rattle.vl_tree.specs.Piece.{Piece, ◌then◌, nowhere, kind_at, mark, in_parens, maybe, commas, each, where_true, word, name_at}
use Rattle.vl_tree.specs.Expressions.{expr_at, range_at}
use Rattle.vl_tree.specs.Modules.{type_at, net_at, variable_at, driven_at, edge_at, sensed_at, separator_at, sensed_list_at, event_at, named_bind_at, binds_at, instance_at}
use Rattle.vl_tree.specs.Statements.{stmt_at, NoElse}
use Rattle.vl_tree.specs.Modules.{function_type_at, function_port_at, function_ports_at, function_declaration_at, function_at}
use Rattle.vl_tree.specs.Modules.{direction_word, directed_at, port_at, named_port_at, ports_at, header_parameter_at, header_parameters_at}
use Rattle.vl_tree.specs.Depth.{expr_depths, range_depths, depths_of, type_depths, value_depths, net_depths, variable_depths, driven_depths, edge_depths, sensed_depths, event_depths, comma_depths, enclosed, named_bind_depths, binds_depths, instance_depths, parameter_binds_depths}
use Rattle.vl_tree.specs.Depth.{stmt_depths, function_type_depths, function_port_depths, function_ports_depths, function_declaration_depths, function_depths, each_depth, one_if, name_depth}
use Rattle.vl_tree.specs.Depth.{directed_depths, port_depths, header_parameter_depths, header_parameters_depths}
use Rattle.vl_read.specs.declared.fault.Fault.{Fault}
use Rattle.vl_read.specs.Reading.{Reads, Any}
use Rattle.vl_read.specs.Tokens.{Not, one_deep}
use Rattle.vl_read.specs.Commas.{EndsCommas}
use Rattle.vl_expr.specs.Ends.{EndsExpr}
use Rattle.vl_declaration.specs.declared.range.Shape.{Shape}
use Rattle.vl_function.specs.declared.function.Head.{Head}
use Rattle.vl_declaration.specs.Readers.{NoRange, shape, shape_at, shape_depths}

-- ---- functions (A.2.6)

-- neither `integer` nor a range comes next
abbrev pub NoFunctionType : List Placed → Type 0
NoFunctionType ts = Not (k.key w.Integer) ts × NoRange ts

abbrev pub ReadsFunctionType : ℕ → List Placed → Result (function_type_code.FunctionType × List Placed) Fault → Type 0
ReadsFunctionType d ts r = Reads function_type function_type_at (function_type_depths d) NoFunctionType NoFunctionType ts r

abbrev pub ReadsFunctionPort : ℕ → List Placed → Result (function_port_code.FunctionPort × List Placed) Fault → Type 0
ReadsFunctionPort d ts r = Reads function_port function_port_at (function_port_depths d) Any Any ts r

-- inputs of a header, of which the first has the word `input`
abbrev pub input_list_at : List t.FunctionPort → Piece
input_list_at [] = nowhere
input_list_at (t.declared_input p s r n ∷ more) = commas function_port_at (t.declared_input p s r n ∷ more)
input_list_at (t.named_input n ∷ more) = nowhere

abbrev pub ReadsInputList : ℕ → List Placed → Result (List function_port_code.FunctionPort × List Placed) Fault → Type 0
ReadsInputList d ts r =
    Reads (map function_port) input_list_at (comma_depths function_port_depths d) (EndsCommas Any) (EndsCommas Any) ts r

abbrev pub NoParen : List Placed → Type 0
NoParen = Not (k.mark m.OpenParen)

abbrev pub ReadsFunctionPorts : ℕ → List Placed → Result (List function_port_code.FunctionPort × List Placed) Fault → Type 0
ReadsFunctionPorts d ts r = Reads (map function_port) function_ports_at (function_ports_depths d) NoParen NoParen ts r

-- names and the semicolon after them
abbrev pub NameList : Type 0
NameList = List t.Name × Unit {0}

abbrev pub names_at : NameList → Piece
names_at x = commas name_at x.0 then mark m.Semicolon

abbrev pub names_depths : ℕ → NameList → List ℕ
names_depths d x = comma_depths name_depth d x.0 ++ (d ∷ [])

abbrev pub ReadsNames : ℕ → List Placed → Result (List name_code.Name × List Placed) Fault → Type 0
ReadsNames d ts r = Reads (λ ns. (map name ns, tt)) names_at (names_depths d) Any Any ts r

-- the same after a sign and a range
abbrev pub ShapedNames : Type 0
ShapedNames = (Bool × Option Range) × NameList

abbrev pub shaped_names_at : ShapedNames → Piece
shaped_names_at x = shape_at x.0 then commas name_at x.1.0 then mark m.Semicolon

abbrev pub shaped_names_depths : ℕ → ShapedNames → List ℕ
shaped_names_depths d x = shape_depths d x.0 ++ (comma_depths name_depth d x.1.0 ++ (d ∷ []))

abbrev pub shaped_names : Shape × List name_code.Name → ShapedNames
shaped_names x = (shape x.0, (map name x.1, tt))

abbrev pub ReadsShapedNames : ℕ → List Placed → Result ((Shape × List name_code.Name) × List Placed) Fault → Type 0
ReadsShapedNames d ts r = Reads shaped_names shaped_names_at (shaped_names_depths d) Any Any ts r

abbrev pub ReadsFunctionDeclaration : ℕ → List Placed → Result (function_declaration_code.FunctionDeclaration × List Placed) Fault → Type 0
ReadsFunctionDeclaration d ts r = Reads function_declaration function_declaration_at (function_declaration_depths d) Any Any ts r

-- no declaration of a function comes next
abbrev pub NoDeclaration : List Placed → Type 0
NoDeclaration ts = Not (k.key w.Input) ts × Not (k.key w.Reg) ts × Not (k.key w.Integer) ts

-- one comes next, if a token does
abbrev pub Declares : List Placed → Type 0
Declares [] = Unit {0}
Declares (a ∷ rest) = (kind_of a ≡ k.key w.Input) ⊎ (kind_of a ≡ k.key w.Reg) ⊎ (kind_of a ≡ k.key w.Integer)

-- whether one comes next
abbrev pub TellsDeclaration : List Placed → Bool → Type 0
TellsDeclaration ts true = Declares ts
TellsDeclaration ts false = NoDeclaration ts

-- the declarations of a function and its statement
abbrev pub body_at : List t.FunctionDeclaration × t.Stmt → Piece
body_at x = each function_declaration_at x.0 then stmt_at x.1

abbrev pub body_depths : ℕ → List t.FunctionDeclaration × t.Stmt → List ℕ
body_depths d x = each_depth function_declaration_depths d x.0 ++ stmt_depths d x.1

abbrev pub body : List function_declaration_code.FunctionDeclaration × stmt_code.Stmt → List t.FunctionDeclaration × t.Stmt
body x = (map function_declaration x.0, stmt x.1)

abbrev pub ReadsBody : ℕ → List Placed
    → Result ((List function_declaration_code.FunctionDeclaration × stmt_code.Stmt) × List Placed) Fault → Type 0
ReadsBody d ts r = Reads body body_at (body_depths d) NoElse Any ts r

-- a function's semicolon, its declarations and statement, and its `endfunction`
abbrev pub closed_body_at : List t.FunctionDeclaration × t.Stmt → Piece
closed_body_at x = mark m.Semicolon then body_at x then word w.Endfunction

abbrev pub closed_body_depths : ℕ → List t.FunctionDeclaration × t.Stmt → List ℕ
closed_body_depths d x = d ∷ (body_depths (d + 1) x ++ (d ∷ []))

abbrev pub ReadsClosedBody : ℕ → List Placed
    → Result ((List function_declaration_code.FunctionDeclaration × stmt_code.Stmt) × List Placed) Fault → Type 0
ReadsClosedBody d ts r = Reads body closed_body_at (closed_body_depths d) Any Any ts r

-- a function's header from after `function` on, up to its semicolon
abbrev pub Heading : Type 0
Heading = Bool × (Bool × (t.FunctionType × (t.Name × List t.FunctionPort)))

abbrev pub head_at : Heading → Piece
head_at x = where_true x.0 (word w.Automatic) then where_true x.1.0 (word w.Signed) then function_type_at x.1.1.0 then name_at x.1.1.1.0
    then function_ports_at x.1.1.1.1

abbrev pub head_depths : ℕ → Heading → List ℕ
head_depths d x = one_if d x.0 ++ (one_if d x.1.0 ++ (function_type_depths d x.1.1.0 ++ (d ∷ function_ports_depths d x.1.1.1.1)))

abbrev pub head : Head → Heading
head h = (h.automatic, (h.signed, (function_type h.result, (name h.name, map function_port h.ports))))

abbrev pub ReadsHead : ℕ → List Placed → Result (Head × List Placed) Fault → Type 0
ReadsHead d ts r = Reads head head_at (head_depths d) NoParen NoParen ts r

-- the function whose `function` stands at this place, of its header and its body
abbrev pub function_of : Place → Heading × (List t.FunctionDeclaration × t.Stmt) → t.Function
function_of p x = record {
  place = p;
  automatic = x.0.0;
  signed = x.0.1.0;
  result = x.0.1.1.0;
  name = x.0.1.1.1.0;
  ports = x.0.1.1.1.1;
  declarations = x.1.0;
  body = x.1.1;
}

-- the function whose `function` stands at this place, from after it on
abbrev pub ReadsFunction : Place → ℕ → List Placed → Result (function_code.Function × List Placed) Fault → Type 0
ReadsFunction p d ts r = Reads function function_at (function_depths d) Any Any (at (k.key w.Function) p ∷ ts) r
