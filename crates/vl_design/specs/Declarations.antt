-- What the items of one scope declare, in order of text (IEEE 1364-2005, clauses 4.2, 4.3, 4.8 to 4.10, 10.4, 12.3 and 12.4).
-- The items of a `generate` region are the scope's own; those of a generate block are another scope's.
use Rattle.std.specs.Prelude.{Bool, true, false, ◌||◌, if◌then◌else◌, List, [], ◌∷◌, ◌++◌, map, bytes_eq, Option, Some, None}
use Rattle.std.specs.List.{list_any}
use Rattle.vl_tree.specs.Syntax as t
use Rattle.vl_tree.specs.Syntax.{Name, Direction, Kept, Directed, Range, Port, declared_port, named_port, FunctionPort, FunctionDeclaration, Function}
use Rattle.vl_value.specs.Paths.{Text}
use Rattle.vl_value.specs.Order.{Found}
use Rattle.vl_design.specs.Lists.{each_of}
use Rattle.vl_design.specs.Constants.{Worth, Known, without}
use Rattle.vl_design.specs.Spans.{Span, one_bit, integer_span, optional_span, span_of, range_needs}
use Rattle.vl_design.specs.Parameters.{Given, parameter_type, value_needs, values_worth, after_values}

-- `wire`, `reg` and `integer`
pub data Kind : Type 0 where
  net : Kind
  register : Kind
  whole_number : Kind

-- a name with a sign and a range
pub record Local : Type 0 where
  pub name : Name
  pub signed : Bool
  pub span : Span

-- a function: its result, its inputs in order, and these and its other variables in order of text
pub record Routine : Type 0 where
  pub result : Local
  pub inputs : List Local
  pub locals : List Local

-- one declaration of one name
pub data Declared : Type 0 where
  -- a port, and `wire` or `reg` where its declaration says one
  port : Direction → Option Kept → Local → Declared
  -- a net or a variable
  object : Kind → Local → Declared
  -- a memory: its words, and the range of their indices
  memory : Local → Span → Declared
  -- a parameter
  parameter : Name → Worth → Declared
  genvar : Name → Declared
  routine : Routine → Declared
  -- an instance, or the label of a generate block that is there
  inner : Name → Declared

abbrev pub name_of : Declared → Name
name_of (port d k l) = l.name
name_of (object k l) = l.name
name_of (memory l ws) = l.name
name_of (parameter x w) = x
name_of (genvar x) = x
name_of (routine r) = r.result.name
name_of (inner x) = x

abbrev pub is_named : Text → Declared → Bool
is_named x d = bytes_eq (name_of d).text x

-- ---- ports, nets and variables

abbrev pub local : Bool → Span → Name → Local
local s sp x = record { name = x; signed = s; span = sp }

abbrev pub directed_port : Known → Directed → Name → Declared
directed_port k d x = port d.direction d.kept (local d.signed (optional_span k d.range) x)

abbrev pub variable_by : Known → Kind → Bool → Span → t.Variable → Declared
variable_by k j s sp (t.variable x) = object j (local s sp x)
variable_by k j s sp (t.valued x e) = object j (local s sp x)
variable_by k j s sp (t.memory x r) = memory (local s sp x) (span_of k r)

abbrev pub words_needs : Known → t.Variable → List Found
words_needs k (t.memory x r) = range_needs k (Some r)
words_needs k _ = []

-- ports of a header: a bare name behind a declared one takes its words
abbrev pub header_ports : Known → Option Directed → List Port → List Declared
header_ports k d [] = []
header_ports k d (declared_port e x ∷ ps) = directed_port k e x ∷ header_ports k (Some e) ps
header_ports k (Some d) (named_port x ∷ ps) = directed_port k d x ∷ header_ports k (Some d) ps
header_ports k None (named_port x ∷ ps) = header_ports k None ps

abbrev pub port_needs : Known → Port → List Found
port_needs k (declared_port d x) = range_needs k d.range
port_needs k (named_port x) = []

-- whether a text is one of some names
abbrev pub is_any_name : Text → List Name → Bool
is_any_name x xs = list_any (λ (n : Name). bytes_eq n.text x) xs

-- ---- functions

abbrev pub result_of : Known → Function → Local
result_of k f = elim f.result [
  | t.bit_result ↦ local f.signed one_bit f.name
  | t.range_result r ↦ local f.signed (span_of k r) f.name
  | t.integer_result ↦ local true integer_span f.name
]

-- an input without words takes those of the one before
abbrev pub header_inputs : Known → Bool → Span → List FunctionPort → List Local
header_inputs k s sp [] = []
header_inputs k s sp (t.declared_input p g r x ∷ ps) =
    local g (optional_span k r) x ∷ header_inputs k g (optional_span k r) ps
header_inputs k s sp (t.named_input x ∷ ps) = local s sp x ∷ header_inputs k s sp ps

abbrev pub declared_inputs : Known → FunctionDeclaration → List Local
declared_inputs k (t.inputs p s r xs) = map (local s (optional_span k r)) xs
declared_inputs k _ = []

abbrev pub declared_locals : Known → FunctionDeclaration → List Local
declared_locals k (t.inputs p s r xs) = map (local s (optional_span k r)) xs
declared_locals k (t.variables p s r xs) = map (local s (optional_span k r)) xs
declared_locals k (t.integers p xs) = map (local true integer_span) xs

-- names that a function has: its own, and those of its inputs and variables
abbrev pub input_name : FunctionPort → Name
input_name (t.declared_input p s r x) = x
input_name (t.named_input x) = x

abbrev pub local_names : FunctionDeclaration → List Name
local_names (t.inputs p s r xs) = xs
local_names (t.variables p s r xs) = xs
local_names (t.integers p xs) = xs

abbrev pub names_in : Function → List Name
names_in f = f.name ∷ (map input_name f.ports ++ each_of local_names f.declarations)

-- the constants in sight in a function: its names hide outer ones
abbrev pub in_function : Function → Known → Known
in_function f k = without (λ x. is_any_name x (names_in f)) k

abbrev pub routine_of : Known → Function → Routine
routine_of k f = record {
  result = result_of k f;
  inputs = header_inputs (in_function f k) false one_bit f.ports
      ++ each_of (declared_inputs (in_function f k)) f.declarations;
  locals = header_inputs (in_function f k) false one_bit f.ports
      ++ each_of (declared_locals (in_function f k)) f.declarations;
}

abbrev pub result_needs : Known → t.FunctionType → List Found
result_needs k (t.range_result r) = range_needs k (Some r)
result_needs k _ = []

abbrev pub input_needs : Known → FunctionPort → List Found
input_needs k (t.declared_input p s r x) = range_needs k r
input_needs k (t.named_input x) = []

abbrev pub declaration_needs : Known → FunctionDeclaration → List Found
declaration_needs k (t.inputs p s r xs) = range_needs k r
declaration_needs k (t.variables p s r xs) = range_needs k r
declaration_needs k (t.integers p xs) = []

abbrev pub function_needs : Known → Function → List Found
function_needs k f = result_needs k f.result ++ (each_of (input_needs (in_function f k)) f.ports
    ++ each_of (declaration_needs (in_function f k)) f.declarations)

-- ---- items that hold no others; what is given to parameters is given to those of a module alone

abbrev pub item_needs : List Given → Known → t.Item → List Found
item_needs gs k (t.parameter p is_local s r vs) =
    range_needs k r ++ value_needs (if is_local then [] else gs) (parameter_type k s r) k vs
item_needs gs k (t.directed d xs) = range_needs k d.range
item_needs gs k (t.nets p s r ns) = range_needs k r
item_needs gs k (t.registers p s r vs) = range_needs k r ++ each_of (words_needs k) vs
item_needs gs k (t.integer p vs) = each_of (words_needs k) vs
item_needs gs k (t.function f) = function_needs k f
item_needs gs k _ = []

abbrev pub parameter_by : Name × Worth → Declared
parameter_by q = parameter q.0 q.1

abbrev pub plain_declared : List Given → Known → t.Item → List Declared
plain_declared gs k (t.parameter p is_local s r vs) =
    map parameter_by (values_worth (if is_local then [] else gs) (parameter_type k s r) k vs)
plain_declared gs k (t.directed d xs) = map (directed_port k d) xs
plain_declared gs k (t.nets p s r ns) = map (λ (n : t.Net). object net (local s (optional_span k r) n.name)) ns
plain_declared gs k (t.registers p s r vs) = map (variable_by k register s (optional_span k r)) vs
plain_declared gs k (t.integer p vs) = map (variable_by k whole_number true integer_span) vs
plain_declared gs k (t.genvar p xs) = map genvar xs
plain_declared gs k (t.function f) = routine (routine_of k f) ∷ []
plain_declared gs k (t.instances m ps is) = map (λ (i : t.Instance). inner i.name) is
plain_declared gs k _ = []

-- the constants in sight behind an item
abbrev mutual
  pub known_after : List Given → Known → t.Item → Known
  known_after gs k (t.parameter p is_local s r vs) = after_values (if is_local then [] else gs) (parameter_type k s r) k vs
  known_after gs k (t.region p is) = all_known_after gs k is
  known_after gs k _ = k

  pub all_known_after : List Given → Known → t.Items → Known
  all_known_after gs k t.no_item = k
  all_known_after gs k (t.more_item i is) = all_known_after gs (known_after gs k i) is

-- ---- names that a scope has, wherever in it they are declared

abbrev pub variable_name : t.Variable → Name
variable_name (t.variable x) = x
variable_name (t.valued x e) = x
variable_name (t.memory x r) = x

-- ports, nets, variables, memories and functions
abbrev pub object_names : t.Item → List Name
object_names (t.directed d xs) = xs
object_names (t.nets p s r ns) = map (λ (n : t.Net). n.name) ns
object_names (t.registers p s r vs) = map variable_name vs
object_names (t.integer p vs) = map variable_name vs
object_names (t.function f) = f.name ∷ []
object_names _ = []

abbrev pub parameter_names : t.Item → List Name
parameter_names (t.parameter p is_local s r vs) = map (λ (v : t.Valued). v.name) vs
parameter_names _ = []

abbrev pub genvar_names : t.Item → List Name
genvar_names (t.genvar p xs) = xs
genvar_names _ = []

-- whether an item, or one in a region, has a name of this kind
abbrev mutual
  pub has_name : (t.Item → List Name) → t.Item → Text → Bool
  has_name f (t.region p is) x = have_name f is x
  has_name f i x = is_any_name x (f i)

  pub have_name : (t.Item → List Name) → t.Items → Text → Bool
  have_name f t.no_item x = false
  have_name f (t.more_item i is) x = has_name f i x || have_name f is x
