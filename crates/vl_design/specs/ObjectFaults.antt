-- The faults of phase 5: declarations, ports and connections (IEEE 1364-2005, clauses 4.2, 4.3, 12.3 and 12.7), and the limits
-- of this project.
use Rattle.std.specs.Prelude.{ℕ, suc, ◌+◌, ◌==◌, Bool, true, false, ◌&&◌, ◌||◌, not, if◌then◌else◌, nat_lt, List, [], ◌∷◌, ◌++◌, map, filter, bytes_eq, Option, Some, None}
use Rattle.std.specs.List.{list_any}
use Rattle.vl_tree.specs.declared.fault.FaultKind.{FaultKind}
use Rattle.vl_tree.specs.declared.fault.FaultKind.TheVariants.{Duplicate, BadPort, UnknownPort, TooManySignals, TooManyWords, TooManyInputs}
use Rattle.vl_tree.specs.Syntax.{Place, Name, Exprs, no_expr, more_expr, Binds, ordered, by_name, NamedBind, Port, named_port, Module, Direction, input, Kept, reg}
use Rattle.vl_value.specs.Paths.{Text, Path, below}
use Rattle.vl_value.specs.Things.{Shape, width_of, distance}
use Rattle.vl_value.specs.Order.{Found, at}
use Rattle.vl_value.specs.Faults.{start}
use Rattle.vl_design.specs.Lists.{each_of, stands_in}
use Rattle.vl_design.specs.Limits.{Limits}
use Rattle.vl_design.specs.Spans.{Span, shape, vector_faults, words_faults, first_word, last_word}
use Rattle.vl_design.specs.Declarations.{net, Local, Routine, Declared, port, object, memory, routine, name_of, is_named}
use Rattle.vl_design.specs.Scopes.{Scope, Origin, instance_of, block, ports_of}
use Rattle.vl_design.specs.Objects.{may_unite, counted, Object}
use Rattle.vl_design.specs.LoopVariables.{loop_variables, signals_of, is_path_in}
use Rattle.vl_design.specs.Clocks.{clocks_at_top, port_name, is_input}

-- ---- declarations of one name

abbrev pub declared_span : Declared → Option Span
declared_span (port w k l) = Some l.span
declared_span (object k l) = Some l.span
declared_span _ = None

abbrev pub same_bounds : Shape → Shape → Bool
same_bounds a b = (a.left == b.left) && (a.right == b.right)

abbrev pub spans_agree : Option Span → Option Span → Bool
spans_agree (Some a) (Some b) = same_bounds (shape false a) (shape false b)
spans_agree _ _ = false

abbrev pub is_input_port : Declared → Bool
is_input_port (port input k l) = true
is_input_port _ = false

abbrev pub is_variable : Declared → Bool
is_variable (object net l) = false
is_variable (object k l) = true
is_variable _ = false

-- two declarations that make one object: their ranges agree, and an input is no variable
abbrev pub united_faults : Declared → Declared → List Found
united_faults a b = if spans_agree (declared_span a) (declared_span b)
    && not ((is_input_port a && is_variable b) || (is_variable a && is_input_port b))
    then [] else at (name_of b).place BadPort ∷ []

-- a declaration behind those of its name
abbrev pub repeated_faults : List Declared → Declared → List Found
repeated_faults [] b = []
repeated_faults (a ∷ []) b =
    if may_unite a b then united_faults a b else at (name_of b).place Duplicate ∷ []
repeated_faults (a ∷ c ∷ ds) b = at (name_of b).place Duplicate ∷ []

abbrev pub same_names : List Declared → List Declared → List Found
same_names before [] = []
same_names before (b ∷ ds) =
    repeated_faults (filter (is_named (name_of b).text) before) b ++ same_names (before ++ b ∷ []) ds

-- ---- one declaration

abbrev pub local_faults : Local → List Found
local_faults l = vector_faults l.name.place l.span

-- names of a function: its own, its inputs and its variables
abbrev pub routine_locals : Routine → List Local
routine_locals r = r.result ∷ r.locals

abbrev pub same_locals : List Text → List Local → List Found
same_locals before [] = []
same_locals before (l ∷ ls) = (if stands_in before l.name.text then at l.name.place Duplicate ∷ [] else [])
    ++ same_locals (l.name.text ∷ before) ls

-- `input reg`
abbrev pub kept_faults : Direction → Option Kept → Name → List Found
kept_faults input (Some reg) x = at x.place BadPort ∷ []
kept_faults w k x = []

abbrev pub declaration_faults : Declared → List Found
declaration_faults (port w k l) = kept_faults w k l.name ++ local_faults l
declaration_faults (object k l) = local_faults l
declaration_faults (memory l ws) = local_faults l ++ words_faults ws
declaration_faults (routine r) = same_locals [] (routine_locals r) ++ each_of local_faults (routine_locals r)
declaration_faults _ = []

-- ---- ports of a header

abbrev pub has_direction : List Declared → Text → Bool
has_direction ds x = list_any (λ a. is_named x a && (elim a [ port w k l ↦ true | _ ↦ false ])) ds

-- a header of bare names: each is a port of one direction, which items declare
abbrev pub bare_faults : List Declared → List Text → List Port → List Found
bare_faults ds before (named_port x ∷ ps) = (if stands_in before x.text then at x.place Duplicate ∷ []
    else (if has_direction ds x.text then [] else at x.place BadPort ∷ [])) ++ bare_faults ds (x.text ∷ before) ps
bare_faults ds before _ = []

-- ---- connections of an instance

-- the ports of a module: those of its header, and any other with a direction
abbrev pub is_port : Module → List Declared → Text → Bool
is_port m ds x = list_any (λ p. bytes_eq (port_name p).text x) (ports_of m) || has_direction ds x

abbrev pub connection_order_faults : List Port → Exprs → List Found
connection_order_faults (p ∷ ps) (more_expr e es) = connection_order_faults ps es
connection_order_faults [] (more_expr e es) = at (start e) BadPort ∷ []
connection_order_faults _ no_expr = []

abbrev pub named_faults : Module → List Declared → List Text → List NamedBind → List Found
named_faults m ds before [] = []
named_faults m ds before (b ∷ bs) = (if is_port m ds b.name.text
    then (if stands_in before b.name.text then at b.name.place BadPort ∷ [] else [])
    else at b.name.place UnknownPort ∷ []) ++ named_faults m ds (b.name.text ∷ before) bs

abbrev pub connection_faults : Module → List Declared → Option Binds → List Found
connection_faults m ds None = []
connection_faults m ds (Some (ordered es)) = connection_order_faults (ports_of m) es
connection_faults m ds (Some (by_name bs)) = named_faults m ds [] bs

abbrev pub origin_faults : List Declared → Origin → List Found
origin_faults ds (instance_of m None) = bare_faults ds [] (ports_of m)
origin_faults ds (instance_of m (Some j)) = bare_faults ds [] (ports_of m) ++ connection_faults m ds j.binds
origin_faults ds block = []

abbrev pub scope_faults : Scope → List Found
scope_faults s = same_names [] s.level.declared
    ++ (each_of declaration_faults s.level.declared ++ origin_faults s.level.declared s.origin)

-- ---- limits: the first thing that passes one

-- of things in order, each with its place and its count, the first with which the sum is above the most
abbrev pub beyond : ℕ → ℕ → List (Place × ℕ) → Option Place
beyond most n [] = None
beyond most n (c ∷ cs) = if nat_lt most (n + c.1) then Some c.0 else beyond most (n + c.1) cs

abbrev pub told : Option Place → FaultKind → List Found
told None k = []
told (Some p) k = at p k ∷ []

abbrev pub places_of : (Object → ℕ) → List Object → List (Place × ℕ)
places_of f os = map (λ (o : Object). (o.name.place, f o)) os

-- a memory's words; of a range with a fault none are counted
abbrev pub memory_words : Declared → List (Place × ℕ)
memory_words (memory l ws) = elim (words_faults ws) [
  | [] ↦ (l.name.place, suc (distance (first_word ws) (last_word ws))) ∷ []
  | f ∷ fs ↦ []
]
memory_words _ = []

abbrev pub words_of : Scope → List (Place × ℕ)
words_of s = each_of memory_words (counted s.level)

-- the data inputs of the top: its inputs that are no clock names
abbrev pub data_inputs : List Scope → List Object
data_inputs [] = []
data_inputs (s ∷ ss) = let clocks : List Path = clocks_at_top (s ∷ ss) in
    filter (λ (o : Object). is_input (Some o) && not (is_path_in clocks (below s.level.path o.name.text)))
    (signals_of (loop_variables (s ∷ ss)) s)

abbrev pub limit_faults : Limits → List Scope → List Found
limit_faults q ss = told (beyond q.signals 0 (places_of (λ o. 1) (each_of (signals_of (loop_variables ss)) ss))) TooManySignals
    ++ (told (beyond q.words 0 (each_of words_of ss)) TooManyWords
    ++ (told (beyond q.inputs 0 (places_of (λ o. 1) (data_inputs ss))) TooManyInputs
    ++ told (beyond q.input_bits 0 (places_of (λ (o : Object). width_of o.shape) (data_inputs ss))) TooManyInputs))

abbrev pub object_faults : Limits → List Scope → List Found
object_faults q ss = each_of scope_faults ss ++ limit_faults q ss
