-- The grammar of modules and their items (IEEE 1364-2005, A.1.2 to A.4.2, cut down to the profile).
use Rattle.std.specs.Prelude.{◌≡◌, ◌⊎◌, Bool, true, false, List, [], ◌∷◌, Option}
use Rattle.vl_tree.specs.declared.token.Key.{Key}
use Rattle.vl_tree.specs.declared.token.Key.TheVariants as w
use Rattle.vl_tree.specs.declared.token.Mark.TheVariants as m
use Rattle.vl_tree.specs.Syntax.{Range, Direction, input, output, Kept, wire, reg, Directed, HeaderParameter}
use Rattle.vl_tree.specs.Syntax.{declared_parameter, next_parameter, Port, declared_port, named_port, Valued, Net}
use Rattle.vl_tree.specs.Syntax.{Variable, variable, valued, memory, Driven}
use Rattle.vl_tree.specs.Syntax.{Edge, positive_edge, negative_edge, no_edge, Sensed, Event, any_read}
use Rattle.vl_tree.specs.Syntax.{any_read_list, sensed, NamedBind, Binds, ordered, by_name, Instance}
use Rattle.vl_tree.specs.Syntax.{FunctionType, bit_result, range_result, integer_result, FunctionPort}
use Rattle.vl_tree.specs.Syntax.{declared_input, named_input, FunctionDeclaration, inputs, variables, integers}
use Rattle.vl_tree.specs.Syntax.{Function}
use Rattle.vl_tree.specs.Syntax.{Item, parameter, directed, nets, registers, integer, genvar, continuous, always}
use Rattle.vl_tree.specs.Syntax.{initial, function, instances, region, generate_loop, generate_if}
use Rattle.vl_tree.specs.Syntax.{Items, no_item, more_item, GenerateBlock, single, several, GenerateBranches}
use Rattle.vl_tree.specs.Syntax.{no_generate_branch, more_generate_branch, GenerateElse, no_generate_else}
use Rattle.vl_tree.specs.Syntax.{generate_else, Module, Source}
use Rattle.vl_tree.specs.Piece.{Piece, ◌then◌, nothing, nowhere, given, word, word_at, mark, mark_at, name_at}
use Rattle.vl_tree.specs.Piece.{in_parens, where_true, maybe, each, more_of, commas}
use Rattle.vl_tree.specs.Expressions.{expr_at, exprs_at, range_at}
use Rattle.vl_tree.specs.Statements.{target_at, label_at, loop_at, no_else_next, stmt_at}

-- [ "signed" ] [ range ] (A.2.1.1)
abbrev pub type_at : Bool → Option Range → Piece
type_at signed range = where_true signed (word w.Signed) then maybe range_at range

-- the word of a direction (A.2.1.2)
abbrev pub direction_word : Direction → Key
direction_word input = w.Input
direction_word output = w.Output

-- wire or reg
abbrev pub kept_at : Kept → Piece
kept_at wire = word w.Wire
kept_at reg = word w.Reg

-- ( "input" | "output" ) [ "wire" | "reg" ] [ "signed" ] [ range ] (A.2.1.2)
abbrev pub directed_at : Directed → Piece
directed_at d = word_at (direction_word d.direction) d.place then maybe kept_at d.kept then type_at d.signed d.range

-- ID "=" expr (A.2.4)
abbrev pub valued_at : Valued → Piece
valued_at v = name_at v.name then mark m.Equals then expr_at v.value

-- ID [ "=" expr ] (A.2.3)
abbrev pub net_at : Net → Piece
net_at n = name_at n.name then maybe (λ e. mark m.Equals then expr_at e) n.value

-- ID [ "=" expr | range ] (A.2.2.1)
abbrev pub variable_at : Variable → Piece
variable_at (variable n) = name_at n
variable_at (valued n e) = name_at n then mark m.Equals then expr_at e
variable_at (memory n r) = name_at n then range_at r

-- lvalue "=" expr (A.6.1)
abbrev pub driven_at : Driven → Piece
driven_at d = target_at d.target then mark_at m.Equals d.place then expr_at d.value

-- [ "posedge" | "negedge" ] (A.6.5)
abbrev pub edge_at : Edge → Piece
edge_at (positive_edge p) = word_at w.Posedge p
edge_at (negative_edge p) = word_at w.Negedge p
edge_at no_edge = nothing

-- an edge of a signal (A.6.5)
abbrev pub sensed_at : Sensed → Piece
sensed_at x = edge_at x.edge then expr_at x.signal

-- `or` or a comma (A.6.5)
abbrev pub separator_at : Piece
separator_at ts rest = word w.Or ts rest ⊎ mark m.Comma ts rest

-- edges with `or` or a comma before each
abbrev pub more_sensed_at : List Sensed → Piece
more_sensed_at [] = nothing
more_sensed_at (x ∷ more) = separator_at then sensed_at x then more_sensed_at more

-- edges with `or` or a comma between them, one at least
abbrev pub sensed_list_at : List Sensed → Piece
sensed_list_at [] = nowhere
sensed_list_at (x ∷ more) = sensed_at x then more_sensed_at more

-- "@" "*" | "@" "(" "*" ")" | "@" "(" edges ")" (A.6.5)
abbrev pub event_at : Event → Piece
event_at any_read = mark m.At then mark m.Star
event_at any_read_list = mark m.At then in_parens (mark m.Star)
event_at (sensed xs) = mark m.At then in_parens (sensed_list_at xs)

-- "." ID "(" [ expr ] ")" (A.4.1)
abbrev pub named_bind_at : NamedBind → Piece
named_bind_at b = mark_at m.Dot b.place then name_at b.name then in_parens (maybe expr_at b.value)

-- binds, in order or by name (A.4.1)
abbrev pub binds_at : Binds → Piece
binds_at (ordered es) = exprs_at es
binds_at (by_name bs) = commas named_bind_at bs

-- ID "(" [ binds ] ")" (A.4.1)
abbrev pub instance_at : Instance → Piece
instance_at i = name_at i.name then in_parens (maybe binds_at i.binds)

-- a parameter of a module's header (A.1.3)
abbrev pub header_parameter_at : HeaderParameter → Piece
header_parameter_at (declared_parameter p s r n e) = word_at w.Parameter p then type_at s r then name_at n
    then mark m.Equals then expr_at e
header_parameter_at (next_parameter n e) = name_at n then mark m.Equals then expr_at e

-- the parameters of a module's header, if it has them: the first has the word `parameter`
abbrev pub header_parameters_at : List HeaderParameter → Piece
header_parameters_at [] = nothing
header_parameters_at (declared_parameter p s r n e ∷ more) = mark m.Hash
    then in_parens (header_parameter_at (declared_parameter p s r n e) then more_of header_parameter_at more)
header_parameters_at (next_parameter n e ∷ more) = nowhere

-- a port of a module's header (A.1.3)
abbrev pub port_at : Port → Piece
port_at (declared_port d n) = directed_at d then name_at n
port_at (named_port n) = name_at n

-- a port that is a name alone
abbrev pub named_port_at : Port → Piece
named_port_at (declared_port d n) = nowhere
named_port_at (named_port n) = name_at n

-- the ports of a module's header: none, names alone, or the first has a direction (A.1.3)
abbrev pub ports_at : List Port → Piece
ports_at [] = nothing
ports_at (declared_port d n ∷ more) = port_at (declared_port d n) then more_of port_at more
ports_at (named_port n ∷ more) = name_at n then more_of named_port_at more

-- [ range | "integer" ] (A.2.6)
abbrev pub function_type_at : FunctionType → Piece
function_type_at bit_result = nothing
function_type_at (range_result r) = range_at r
function_type_at integer_result = word w.Integer

-- an input of a function's header (A.2.6)
abbrev pub function_port_at : FunctionPort → Piece
function_port_at (declared_input p s r n) = word_at w.Input p then type_at s r then name_at n
function_port_at (named_input n) = name_at n

-- the inputs of a function's header, if it has them: the first has the word `input`
abbrev pub function_ports_at : List FunctionPort → Piece
function_ports_at [] = nothing
function_ports_at (declared_input p s r n ∷ more) = in_parens (function_port_at (declared_input p s r n)
    then more_of function_port_at more)
function_ports_at (named_input n ∷ more) = nowhere

-- a declaration in a function (A.2.8)
abbrev pub function_declaration_at : FunctionDeclaration → Piece
function_declaration_at (inputs p s r ns) = word_at w.Input p then type_at s r then commas name_at ns
    then mark m.Semicolon
function_declaration_at (variables p s r ns) = word_at w.Reg p then type_at s r then commas name_at ns
    then mark m.Semicolon
function_declaration_at (integers p ns) = word_at w.Integer p then commas name_at ns then mark m.Semicolon

-- a function (A.2.6)
abbrev pub function_at : Function → Piece
function_at f = word_at w.Function f.place then where_true f.automatic (word w.Automatic)
    then where_true f.signed (word w.Signed)
    then function_type_at f.result then name_at f.name then function_ports_at f.ports then mark m.Semicolon
    then each function_declaration_at f.declarations then stmt_at f.body then word w.Endfunction

-- the word of a parameter, localparam where true (A.2.1.1)
abbrev pub parameter_word : Bool → Key
parameter_word false = w.Parameter
parameter_word true = w.Localparam

-- the block is an `if`
abbrev pub is_generate_if : GenerateBlock → Bool
is_generate_if (single (parameter p l s r vs)) = false
is_generate_if (single (directed d ns)) = false
is_generate_if (single (nets p s r ns)) = false
is_generate_if (single (registers p s r vs)) = false
is_generate_if (single (integer p vs)) = false
is_generate_if (single (genvar p ns)) = false
is_generate_if (single (continuous p ds)) = false
is_generate_if (single (always p e s)) = false
is_generate_if (single (initial p s)) = false
is_generate_if (single (function f)) = false
is_generate_if (single (instances n b is)) = false
is_generate_if (single (region p is)) = false
is_generate_if (single (generate_loop p l b)) = false
is_generate_if (single (generate_if bs o)) = true
is_generate_if (several p n is) = false

abbrev mutual
  -- an item of a module or a generate block (A.1.4, A.4.2)
  pub item_at : Item → Piece
  item_at (parameter p l s r vs) = word_at (parameter_word l) p then type_at s r then commas valued_at vs
      then mark m.Semicolon
  item_at (directed d ns) = directed_at d then commas name_at ns then mark m.Semicolon
  item_at (nets p s r ns) = word_at w.Wire p then type_at s r then commas net_at ns then mark m.Semicolon
  item_at (registers p s r vs) = word_at w.Reg p then type_at s r then commas variable_at vs then mark m.Semicolon
  item_at (integer p vs) = word_at w.Integer p then commas variable_at vs then mark m.Semicolon
  item_at (genvar p ns) = word_at w.Genvar p then commas name_at ns then mark m.Semicolon
  item_at (continuous p ds) = word_at w.Assign p then commas driven_at ds then mark m.Semicolon
  item_at (always p e b) = word_at w.Always p then event_at e then stmt_at b
  item_at (initial p b) = word_at w.Initial p then stmt_at b
  item_at (function f) = function_at f
  item_at (instances n b is) = name_at n then maybe (λ x. mark m.Hash then in_parens (maybe binds_at x)) b
      then commas instance_at is then mark m.Semicolon
  item_at (region p is) = word_at w.Generate p then items_at is then word w.Endgenerate
  item_at (generate_loop p l b) = word_at w.For p then loop_at l then generate_block_at b
  item_at (generate_if no_generate_branch o) = nowhere
  item_at (generate_if (more_generate_branch p c b bs) o) = word_at w.If p then in_parens (expr_at c)
      then generate_block_at b
      then generate_branches_at bs then generate_else_at o

  -- items, one after another
  pub items_at : Items → Piece
  items_at no_item = nothing
  items_at (more_item i is) = item_at i then items_at is

  -- an item, or begin : label .. end (A.4.2)
  pub generate_block_at : GenerateBlock → Piece
  generate_block_at (single i) = item_at i
  generate_block_at (several p n is) = word_at w.Begin p then label_at n then items_at is then word w.End

  -- the branches after the first (A.4.2)
  pub generate_branches_at : GenerateBranches → Piece
  generate_branches_at no_generate_branch = nothing
  generate_branches_at (more_generate_branch p c b bs) = word w.Else then word_at w.If p then in_parens (expr_at c)
      then generate_block_at b then generate_branches_at bs

  -- the last `else`: its block is no `if`, and without one no `else` comes next (12.4)
  pub generate_else_at : GenerateElse → Piece
  generate_else_at no_generate_else = no_else_next
  generate_else_at (generate_else b) = word w.Else then given (is_generate_if b ≡ false) (generate_block_at b)

-- a module (A.1.2)
abbrev pub module_at : Module → Piece
module_at x = word_at w.Module x.place then name_at x.name then header_parameters_at x.parameters
    then maybe (λ ps. in_parens (ports_at ps)) x.ports then mark m.Semicolon then items_at x.items then word w.Endmodule

-- a source: its modules, one after another (A.1.2)
abbrev pub source_at : Source → Piece
source_at = each module_at
