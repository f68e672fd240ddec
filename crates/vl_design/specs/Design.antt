-- A source as a design: the least fault of phases 4 and 5, or its scopes; and what these hold, in the order in which it is
-- numbered: by scope in preorder, then by text. Pieces stand with the names that are in sight there.
use Rattle.std.specs.Prelude.{ℕ, not, filter, List, [], ◌∷◌, ◌++◌, map, Option, Some, None, Result, Ok, Err}
use Rattle.vl_tree.specs.Fault.{Fault}
use Rattle.vl_tree.specs.Syntax.{Place, Name, Expr, Stmt, Event, Driven, Net, Variable, valued, Item, Items, nets, registers, integer, continuous, always, initial, region, no_item, more_item, Source}
use Rattle.vl_value.specs.Paths.{Text, Path, below}
use Rattle.vl_value.specs.Things.{Shape}
use Rattle.vl_value.specs.Constant.{Sight}
use Rattle.vl_value.specs.Order.{Found, least, of_phase}
use Rattle.vl_design.specs.Lists.{each_of, stands_in}
use Rattle.vl_design.specs.Limits.{Limits}
use Rattle.vl_design.specs.Spans.{first_word, last_word}
use Rattle.vl_design.specs.Declarations.{Local, Routine, Declared}
use Rattle.vl_design.specs.Declarations as d
use Rattle.vl_design.specs.Scopes.{Scope, Level, levels, Origin, instance_of, block, ports_of}
use Rattle.vl_design.specs.Walk.{build, top_of, hierarchy_faults}
use Rattle.vl_design.specs.Objects.{counted, Object, objects, object_at, local_shape, sight}
use Rattle.vl_design.specs.LoopVariables.{loop_variables, signals_of, is_path_in}
use Rattle.vl_design.specs.Clocks.{port_name, connected}
use Rattle.vl_design.specs.ObjectFaults.{object_faults, data_inputs}

-- ---- the least fault

-- the scopes of a source, in preorder
abbrev pub scopes : Limits → Source → Option Text → List Scope
scopes q src top = elim (top_of src top) [ Some m ↦ (build q src m).scopes | None ↦ [] ]

-- a phase is looked at only where those before it have no fault
abbrev pub then_phase : ℕ → List Found → Option Fault → Option Fault
then_phase n fs later = elim (least fs) [ Some f ↦ Some (of_phase n f) | None ↦ later ]

abbrev pub first_fault : Limits → Source → Option Text → Option Fault
first_fault q src top = then_phase 4 (hierarchy_faults q src top)
    (then_phase 5 (object_faults q (scopes q src top)) None)

-- ---- objects by number

-- a net or a variable with its path
pub record Signal : Type 0 where
  pub path : Path
  pub object : Object

abbrev pub signal_in : Scope → Object → Signal
signal_in s o = record { path = below s.level.path o.name.text; object = o }

abbrev pub signals : List Scope → List Signal
signals ss = each_of (λ s. map (signal_in s) (signals_of (loop_variables ss) s)) ss

-- a memory with its path, the shape of its words, and the indices of its first and its last one
pub record Memory : Type 0 where
  pub path : Path
  pub shape : Shape
  pub first : ℕ
  pub last : ℕ

abbrev pub memory_in : Path → Declared → List Memory
memory_in p (d.memory l ws) = record {
  path = below p l.name.text;
  shape = local_shape l;
  first = first_word ws;
  last = last_word ws;
} ∷ []
memory_in p _ = []

abbrev pub memories : List Scope → List Memory
memories ss = each_of (λ s. each_of (memory_in s.level.path) (counted s.level)) ss

-- a function with its path and the scope in which it stands
pub record Callable : Type 0 where
  pub path : Path
  pub scope : Scope
  pub routine : Routine

abbrev pub callable_in : Scope → Declared → List Callable
callable_in s (d.routine r) = record { path = below s.level.path r.result.name.text; scope = s; routine = r } ∷ []
callable_in s _ = []

abbrev pub callables : List Scope → List Callable
callables ss = each_of (λ s. each_of (callable_in s) (counted s.level)) ss

-- variables that are no signals: loop variables, and then those of functions
abbrev pub locals_of : Callable → List Path
locals_of c = map (λ (l : Local). below c.path l.name.text) c.routine.locals

abbrev pub loop_variables_in : List Path → Scope → List Path
loop_variables_in loops s = filter (is_path_in loops)
    (map (λ (o : Object). below s.level.path o.name.text) (objects s.level))

abbrev pub locals : List Scope → List Path
locals ss = each_of (loop_variables_in (loop_variables ss)) ss ++ each_of locals_of (callables ss)

-- ---- the top's data inputs in the order of its ports: those of its header, then others in order of text

abbrev pub header_names : Origin → List Text
header_names (instance_of m j) = map (λ p. (port_name p).text) (ports_of m)
header_names block = []

abbrev pub named_inputs : List Object → List Text → List Object
named_inputs os [] = []
named_inputs os (x ∷ xs) = elim (object_at os x) [ Some o ↦ o ∷ named_inputs os xs | None ↦ named_inputs os xs ]

abbrev pub ordered_inputs : List Text → List Object → List Object
ordered_inputs xs os = named_inputs os xs ++ filter (λ (o : Object). not (stands_in xs o.name.text)) os

abbrev pub inputs : List Scope → List Signal
inputs [] = []
inputs (s ∷ ss) = map (signal_in s) (ordered_inputs (header_names s.origin) (data_inputs (s ∷ ss)))

-- ---- pieces of the text

pub data Piece : Type 0 where
  -- assign target = value
  assigns : Driven → Piece
  -- wire x = value
  net_value : Name → Expr → Piece
  -- reg x = value
  first_value : Name → Expr → Piece
  process : Place → Event → Stmt → Piece
  starts : Place → Stmt → Piece
  -- a port of an instance and what is connected to it, which stands in the scopes around the instance
  connects : Object → List Level → Expr → Piece

pub record Standing : Type 0 where
  pub scope : Scope
  pub piece : Piece

abbrev pub net_pieces : Net → List Piece
net_pieces n = elim n.value [ Some e ↦ net_value n.name e ∷ [] | None ↦ [] ]

abbrev pub variable_pieces : Variable → List Piece
variable_pieces (valued x e) = first_value x e ∷ []
variable_pieces _ = []

abbrev mutual
  pub pieces_by : Item → List Piece
  pieces_by (continuous p ds) = map assigns ds
  pieces_by (nets p s r ns) = each_of net_pieces ns
  pieces_by (registers p s r vs) = each_of variable_pieces vs
  pieces_by (integer p vs) = each_of variable_pieces vs
  pieces_by (always p e b) = process p e b ∷ []
  pieces_by (initial p b) = starts p b ∷ []
  pieces_by (region p is) = pieces_in is
  pieces_by _ = []

  pub pieces_in : Items → List Piece
  pieces_in no_item = []
  pieces_in (more_item i is) = pieces_by i ++ pieces_in is

abbrev pub port_piece : List Object → List Level → Text × Expr → List Piece
port_piece os outer c = elim (object_at os c.0) [ Some o ↦ connects o outer c.1 ∷ [] | None ↦ [] ]

abbrev pub connection_pieces : Scope → List Piece
connection_pieces s = elim s.origin [
  | instance_of m (Some j) ↦ each_of (port_piece (objects s.level) j.outer) (connected m j.binds)
  | _ ↦ []
]

-- those of a scope: its connections, and then its items'
abbrev pub scope_pieces : Scope → List Standing
scope_pieces s = map (λ q. record { scope = s; piece = q }) (connection_pieces s ++ pieces_in s.items)

abbrev pub pieces : List Scope → List Standing
pieces ss = each_of scope_pieces ss

-- the names in sight where a piece's expressions stand
abbrev pub sight_at : Standing → Sight
sight_at p = elim p.piece [ connects o outer e ↦ sight outer | _ ↦ sight (levels p.scope) ]

-- ---- the whole

-- The scopes in preorder, and what they hold in the order of its numbers.
pub record Design : Type 0 where
  pub scopes : List Scope
  pub signals : List Signal
  pub memories : List Memory
  pub callables : List Callable
  pub locals : List Path
  pub inputs : List Signal

abbrev pub design_of : List Scope → Design
design_of ss = record {
  scopes = ss;
  signals = signals ss;
  memories = memories ss;
  callables = callables ss;
  locals = locals ss;
  inputs = inputs ss;
}

-- the design that a source is, or its least fault of phases 4 and 5
abbrev pub elaborated : Limits → Source → Option Text → Result Design Fault
elaborated q src top = elim (first_fault q src top) [
  | Some f ↦ Err f
  | None ↦ Ok (design_of (scopes q src top))
]
