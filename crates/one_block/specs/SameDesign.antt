-- When a design of a hierarchy is a numbered design of one clocked block: one scope, the same signals, and the same run
-- with every row and state that fit. This project's own.
use Rattle.std.specs.Prelude.{◌≡◌, ℕ, ◌+◌, false, List, [], ◌∷◌, ◌++◌, map, slice_index, Some, None}
use Rattle.std.specs.List.{All}
use Rattle.flat_ir.specs.declared.design.Role.{Role}
use Rattle.flat_ir.specs.declared.design.Role.TheVariants as role
use Rattle.flat_ir.specs.declared.design.SignalKind.{SignalKind}
use Rattle.flat_ir.specs.declared.design.SignalKind.TheVariants as kind
use Rattle.flat_ir.specs.declared.design.Signal.{Signal}
use Rattle.flat_ir.specs.FlatRun as plain
use Rattle.flat_ir.specs.Fired as by_lines
use Rattle.flat_ir.specs.Shown.{flat_shown}
use Rattle.netlist.specs.Design.{Flat}
use Rattle.netlist.specs.Run.{State, Fired, FlatSettles, flat_start, flat_next, flat_fired}
use Rattle.netlist.specs.Values.{Values}
use Rattle.netlist.specs.declared.design.Role as into_role
use Rattle.netlist.specs.declared.design.Role.TheVariants as into
use Rattle.netlist.specs.declared.design.SignalKind as into_kind
use Rattle.netlist.specs.declared.design.SignalKind.TheVariants as sort
use Rattle.netlist.specs.declared.design.Signal as into_signal
use Rattle.netlist.specs.declared.design.Scope.{Scope}
use Rattle.netlist.specs.declared.design.ScopeKind.TheVariants as scope
use Rattle.netlist.specs.declared.design.Range.{Range}
use Rattle.design_names.specs.Stops.{flat_stops}
use Rattle.design_names.specs.declared.stops.Stop.{Stop}
use Rattle.one_block.specs.OneBlock.{Fits}

-- ---- scope and signals

abbrev pub top_scope : List ℕ → Scope
top_scope name = record { parent = None; kind = scope.Instance; name = name }

abbrev pub kind_of : SignalKind → into_kind.SignalKind
kind_of kind.Wire = sort.Wire
kind_of kind.Reg = sort.Reg
kind_of kind.Integer = sort.Integer

-- a register is a signal that has its bits from a register part
abbrev pub role_of : Role → into_role.Role
role_of role.Clock = into.Clock
role_of (role.Input i) = into.Input i
role_of (role.Register r) = into.Inner

abbrev pub signal_of : Signal → into_signal.Signal
signal_of s = record {
  scope = Some 0;
  name = s.name;
  kind = kind_of s.kind;
  width = s.width;
  role = role_of s.role;
  kept = 0;
}

-- the number k of a signal that shows a data input; the whole of a signal that shows a register
abbrev pub input_place : ℕ → Role → List ℕ
input_place k role.Clock = []
input_place k (role.Input i) = k ∷ []
input_place k (role.Register r) = []

abbrev pub whole : ℕ → ℕ → Range
whole k width = record { signal = k; low = 0; width = width }

abbrev pub register_range : ℕ → ℕ → Role → List Range
register_range k width role.Clock = []
register_range k width (role.Input i) = []
register_range k width (role.Register r) = whole k width ∷ []

-- the same of all signals, which are numbered from k on
abbrev pub input_places : ℕ → List Signal → List ℕ
input_places k [] = []
input_places k (s ∷ ss) = input_place k s.role ++ input_places (k + 1) ss

abbrev pub register_ranges : ℕ → List Signal → List Range
register_ranges k [] = []
register_ranges k (s ∷ ss) = register_range k s.width s.role ++ register_ranges (k + 1) ss

-- ---- states, values and what fires

-- the state of a design without memories
abbrev pub state_of : List ℕ → State
state_of registers = record { registers = registers; memories = [] }

-- the values of a cycle: each signal has the one that it shows
abbrev pub values_of : plain.Flat → List ℕ → List ℕ → Values
values_of f row state = record { signals = flat_shown f row state; memories = [] }

-- the lines of all stops, in order of their numbers
abbrev pub stop_lines : List Stop → List ℕ
stop_lines stops = map (λ s. s.place.line) stops

-- a stop of the one block stands in the one scope, and is no `$fatal`
abbrev pub IsPlainStop : Stop → Type 0
IsPlainStop s = (s.scope ≡ 0) × (s.fatal ≡ false)

-- an assertion that fired, by the line of its stop
abbrev pub by_line : List ℕ → Fired → by_lines.Fired
by_line lines x = record { line = slice_index lines x.stop; message = x.message }

-- what fires of a design in a cycle, by lines
abbrev pub fired_by_lines : Flat → Values → List by_lines.Fired
fired_by_lines f v = map (by_line (stop_lines (flat_stops f))) (flat_fired f v)

-- ---- the whole

-- One scope has the name and the signals, in order. Each register is one register part, the whole of its signal, and
-- nothing else has parts; each stop is a plain one of that scope. The start is the same; and with every row and state
-- that fit, what is shown settles, and nothing else does, and the next state and the assertions that fire, each by the
-- line of the stop that has its number, are the same.
pub record SameDesign (old : plain.Flat) (new : Flat) : Type 0 where
  pub scopes : new.scopes ≡ top_scope old.name ∷ []
  pub signals : new.signals ≡ map signal_of old.signals
  pub inputs : new.inputs ≡ input_places 0 old.signals
  pub driven : new.driven ≡ []
  pub registers : map (λ p. p.range) new.registers ≡ register_ranges 0 old.signals
  pub memories : new.memories ≡ []
  pub stops : All IsPlainStop (flat_stops new)
  pub start : flat_start new ≡ state_of (plain.flat_start old)
  pub settles : (row state : List ℕ) → Fits old row state
      → FlatSettles new (state_of state) row (values_of old row state)
  pub alone : (row state : List ℕ) (v : Values) → Fits old row state → FlatSettles new (state_of state) row v
      → v ≡ values_of old row state
  pub next : (row state : List ℕ) → Fits old row state
      → flat_next new (state_of state) (values_of old row state) ≡ state_of (plain.flat_next old row state)
  pub fired : (row state : List ℕ) → Fits old row state
      → fired_by_lines new (values_of old row state) ≡ plain.flat_fired old row state
