-- When a numbered design stands for a design: its numbers are the places in the design's lists, and what holds, settles, comes next and
-- fires is the same. This project's own. Values of signals and memories are alike in both; a numbered state has the register
-- parts and the written memories alone.
use Rattle.std.specs.Prelude.{◌≡◌, ◌↔◌, ◌<◌, ◌^◌, ℕ, suc, ◌++◌, Bool, ◌&&◌, if◌then◌else◌, List, [], ◌∷◌, map, length, slice_get, slice_index, pos, Option, Some, None, IsTrue, Contains, take, sum_by}
use Rattle.std.specs.List.{All, list_any}
use Rattle.bit_ops.specs.Operators.{select}
use Rattle.netlist.specs.Design.{Flat}
use Rattle.netlist.specs.Plain.{PlainMemory, PlainBlock}
use Rattle.netlist.specs.Values.{Values, node_values}
use Rattle.netlist.specs.Run as run
use Rattle.netlist.specs.Run.{State, flat_start, flat_next, put_registers, all_words}
use Rattle.netlist.specs.declared.design.Scope as flat_scope
use Rattle.netlist.specs.declared.design.ScopeKind.{ScopeKind}
use Rattle.netlist.specs.declared.design.ScopeKind.TheVariants as scope_kind
use Rattle.netlist.specs.declared.design.Signal as flat_signal
use Rattle.netlist.specs.declared.design.SignalKind.{SignalKind}
use Rattle.netlist.specs.declared.design.SignalKind.TheVariants as sort
use Rattle.netlist.specs.declared.design.Role.{Role}
use Rattle.netlist.specs.declared.design.Role.TheVariants as role
use Rattle.netlist.specs.declared.design.Range.{Range}
use Rattle.netlist.specs.declared.design.DrivenPart.{DrivenPart}
use Rattle.netlist.specs.declared.design.RegisterPart.{RegisterPart}
use Rattle.design_names.specs.Path as names
use Rattle.design_names.specs.Stops.{flat_stops, event_stops}
use Rattle.design_names.specs.declared.stops.Stop.{Stop}
use Rattle.vl_value.specs.Paths.{Path, same_path}
use Rattle.vl_value.specs.Things.{width_of}
use Rattle.vl_design.specs.Declarations as declared
use Rattle.vl_design.specs.Scopes.{Scope, Origin}
use Rattle.vl_design.specs.LoopVariables.{is_path_in}
use Rattle.vl_design.specs.Design.{Design, Signal, Memory}
use Rattle.vl_process.specs.Texts.{top_name}
use Rattle.vl_process.specs.Clocks.{clock_names}
use Rattle.vl_process.specs.Shown.{is_instance, last_text, is_step_below}
use Rattle.vl_process.specs.Processes.{Driver, Block, drivers, blocks, block_aims}
use Rattle.vl_process.specs.Settling.{Fits, Settles, RowFits, AllFit, signal_width, Holds}
use Rattle.vl_process.specs.Stops.{Assertion, block_assertions}
use Rattle.vl_process.specs.Run.{Fired, initial, next, block_fires}
use Rattle.vl_process.specs.Parts.{Part, owner_from, driven_parts, register_parts, part_readings, is_read_in, is_read_word}
use Rattle.vl_process.specs.FlatReads.{reads_bit, reads_memory, events_at, block_nodes}

-- ---- scopes, signals and memories by number

-- the number of the first scope at whose path a test holds, counted from n
abbrev pub scope_from : ℕ → (Path → Bool) → List Scope → Option ℕ
scope_from n f [] = None
scope_from n f (s ∷ ss) = if f s.level.path then Some n else scope_from (suc n) f ss

-- the top stands in none
abbrev pub parent_of : List Scope → Path → Option ℕ
parent_of ss [] = None
parent_of ss (x ∷ more) = scope_from 0 (λ p. is_step_below p (x ∷ more)) ss

abbrev pub scope_kind_of : Origin → ScopeKind
scope_kind_of o = if is_instance o then scope_kind.Instance else scope_kind.Generate

abbrev pub scope_by_number : Design → Scope → flat_scope.Scope
scope_by_number d s = record {
  parent = parent_of d.scopes s.level.path;
  kind = scope_kind_of s.origin;
  name = last_text (top_name d.scopes) s.level.path;
}

abbrev pub signal_kind_of : declared.Kind → SignalKind
signal_kind_of declared.net = sort.Wire
signal_kind_of declared.register = sort.Reg
signal_kind_of declared.whole_number = sort.Integer

-- the place of the signal at a path in a list, counted from n
abbrev pub signal_from : ℕ → List Signal → Path → Option ℕ
signal_from n [] p = None
signal_from n (x ∷ xs) p = if same_path x.path p then Some n else signal_from (suc n) xs p

abbrev pub input_role : Option ℕ → Role
input_role (Some k) = role.Input k
input_role None = role.Inner

abbrev pub role_of : Design → Path → Role
role_of d p = if is_path_in (clock_names d.scopes) p then role.Clock else input_role (signal_from 0 d.inputs p)

-- a signal, which keeps its first value where no part gives it bits
abbrev pub signal_by_number : Design → Signal → ℕ → flat_signal.Signal
signal_by_number d x n = record {
  scope = scope_from 0 (λ p. is_step_below p x.path) d.scopes;
  name = x.object.name.text;
  kind = signal_kind_of x.object.kind;
  width = signal_width x;
  role = role_of d x.path;
  kept = n;
}

abbrev pub signals_by_number : Design → List Signal → List ℕ → List flat_signal.Signal
signals_by_number d (x ∷ xs) (n ∷ ns) = signal_by_number d x n ∷ signals_by_number d xs ns
signals_by_number d _ _ = []

-- the places that are there
abbrev pub some_of : List (Option ℕ) → List ℕ
some_of [] = []
some_of (None ∷ more) = some_of more
some_of (Some n ∷ more) = n ∷ some_of more

abbrev pub inputs_by_number : Design → List ℕ
inputs_by_number d = some_of (map (λ (x : Signal). signal_from 0 d.signals x.path) d.inputs)

-- the block that writes a memory, which counts as one bit; what no block writes is constant
abbrev pub writer_of : Design → Path → Option ℕ
writer_of d p = owner_from 0 (map block_aims (blocks d)) p 0

-- a memory has the design's width and bounds, and is written by the design's block
pub record IsMemory (d : Design) (y : Memory) (m : PlainMemory) : Type 0 where
  pub width : m.width ≡ width_of y.shape
  pub first : m.first ≡ y.first
  pub last : m.last ≡ y.last
  pub writer : m.writer ≡ writer_of d y.path

abbrev pub AreMemories : Design → List Memory → List PlainMemory → Type 0
AreMemories d [] [] = Unit {0}
AreMemories d (y ∷ ys) (m ∷ ms) = IsMemory d y m × AreMemories d ys ms
AreMemories d _ _ = ⊥

-- ---- parts

abbrev pub range_of : Part → Range
range_of q = record { signal = q.signal; low = q.low; width = q.width }

-- the register parts with the blocks that write them
abbrev pub OwnedBy : List Part → List RegisterPart → Type 0
OwnedBy [] [] = Unit {0}
OwnedBy (q ∷ qs) (p ∷ ps) = (p.range ≡ range_of q) × (p.block ≡ q.owner) × OwnedBy qs ps
OwnedBy _ _ = ⊥

-- a driven part has its node's value at these values
abbrev pub HasNodeValue : Flat → Values → DrivenPart → Type 0
HasNodeValue f v p = select (pos p.range.low) p.range.width (slice_index v.signals p.range.signal)
    ≡ slice_index (node_values f v) p.node

-- each of the driven parts that a driver of this number owns does, where these are all driven parts, from the k-th on
abbrev pub OwnedHold : Flat → Values → ℕ → List Part → List DrivenPart → Type 0
OwnedHold f v r [] ps = Unit {0}
OwnedHold f v r (q ∷ qs) [] = Unit {0}
OwnedHold f v r (q ∷ qs) (p ∷ ps) = (q.owner ≡ r → HasNodeValue f v p) × OwnedHold f v r qs ps

abbrev pub PartsHold : Flat → Design → Values → ℕ → Type 0
PartsHold f d v r = OwnedHold f v r (driven_parts d) f.driven

-- a driver holds exactly where its parts have their nodes' values
abbrev pub DriverStands : Flat → Design → ℕ → Driver → Type 0
DriverStands f d r x = (v : Values) → Fits d v → Holds d v x ↔ PartsHold f d v r

-- a driven part's node reads a bit, or words of a memory, exactly where some bit of the part reads it
pub record PartReads (f : Flat) (d : Design) (q : Part) (p : DrivenPart) : Type 0 where
  pub bits : (x k : ℕ) (y : Signal) → slice_get d.signals x ≡ Some y → k < signal_width y
      → reads_bit f p.node x k ≡ list_any (is_read_in y.path k 1) (part_readings d q)
  pub words : (m : ℕ) (y : Memory) → slice_get d.memories m ≡ Some y
      → reads_memory f p.node m ≡ list_any (is_read_word y.path) (part_readings d q)

abbrev pub AllRead : Flat → Design → List Part → List DrivenPart → Type 0
AllRead f d [] ps = Unit {0}
AllRead f d (q ∷ qs) [] = Unit {0}
AllRead f d (q ∷ qs) (p ∷ ps) = PartReads f d q p × AllRead f d qs ps

-- ---- states

-- the values that a numbered state is: the register parts have their bits, the written memories their words, and all else is what it is
-- always
abbrev pub whole_state : Flat → State → Values
whole_state f s = record {
  signals = put_registers f.signals f.registers s.registers (map (λ x. x.kept) f.signals);
  memories = all_words f.memories s.memories;
}

-- a number for each register part; of each written memory its words, of each other none
abbrev pub WrittenFit : List PlainMemory → List (List ℕ) → Type 0
WrittenFit [] [] = Unit {0}
WrittenFit (m ∷ ms) (ns ∷ more) =
    (length ns ≡ length (run.written_words m)) × All (λ n. n < 2 ^ m.width) ns × WrittenFit ms more
WrittenFit _ _ = ⊥

pub record StateFits (f : Flat) (s : State) : Type 0 where
  pub registers : AllFit (map (λ p. p.range.width) f.registers) s.registers
  pub memories : WrittenFit f.memories s.memories

-- ---- assertions

-- an assertion that fired, by the stop that has its number
abbrev pub fired_by : Flat → Option Stop → List ℕ → List Fired
fired_by f None t = []
fired_by f (Some x) t = record {
  path = names.path_text f x.scope;
  place = record { token = x.place.token; line = x.place.line };
  fatal = x.fatal;
  message = t;
} ∷ []

abbrev pub all_fired_by : Flat → List run.Fired → List Fired
all_fired_by f [] = []
all_fired_by f (x ∷ xs) = fired_by f (slice_get (flat_stops f) x.stop) x.message ++ all_fired_by f xs

-- the scope of a block by number
abbrev pub block_scope : Design → Block → Option ℕ
block_scope d x = scope_from 0 (λ p. same_path p x.scope.level.path) d.scopes

-- the number of the first stop of a block: that of all stops of the blocks before it
abbrev pub first_stop : List PlainBlock → ℕ → ℕ
first_stop bs b = sum_by (λ (x : PlainBlock). run.stop_count x.events) (take b bs)

-- the assertions of a block are those of the text, in order, whether they ever fire or not
abbrev pub assertion_of : Stop → Assertion
assertion_of x = record { place = record { token = x.place.token; line = x.place.line }; fatal = x.fatal }

abbrev pub HasAssertions : Flat → ℕ → Block → Type 0
HasAssertions f b x = map assertion_of (event_stops 0 (events_at f.blocks b)) ≡ block_assertions x

-- what fires of a block at these values is what fires of the design's, whether they settle or not
abbrev pub BlockStands : Flat → Design → ℕ → Block → Type 0
BlockStands f d b x = (v : Values) → Fits d v → all_fired_by f
    (run.block_fired f.nodes (node_values f v) (first_stop f.blocks b) [] (events_at f.blocks b)) ≡ block_fires d v x

-- ---- what a block reads stays in its instance; a generate scope belongs to the instance around it

-- the innermost instance around a path: the last one, in preorder, whose path it begins with
abbrev pub begins_with : Path → Path → Bool
begins_with p q = same_path (take (length q) p) q

abbrev pub instance_from : Path → List Scope → Path → Path
instance_from found [] p = found
instance_from found (s ∷ ss) p = instance_from (if is_instance s.origin && begins_with p s.level.path then s.level.path else found) ss p

abbrev pub instance_around : Design → Path → Path
instance_around d p = instance_from [] d.scopes p

-- a block's nodes read signals and memories of its instance alone
abbrev pub IsLocal : Flat → Design → ℕ → Block → Type 0
IsLocal f d b x = (n : ℕ) → Contains (block_nodes f b) n →
    ((k p : ℕ) (y : Signal) → slice_get d.signals k ≡ Some y → p < signal_width y → IsTrue (reads_bit f n k p)
    → instance_around d y.path ≡ instance_around d x.scope.level.path)
    × ((m : ℕ) (y : Memory) → slice_get d.memories m ≡ Some y → IsTrue (reads_memory f n m)
    → instance_around d y.path ≡ instance_around d x.scope.level.path)

-- ---- the whole; the next state is the design's where the values are those of a cycle, since a register part that isn't written takes
-- its own bits of them

pub record StandsFor (f : Flat) (d : Design) : Type 0 where
  pub scopes : f.scopes ≡ map (scope_by_number d) d.scopes
  pub signals : f.signals ≡ signals_by_number d d.signals (initial d).signals
  pub inputs : f.inputs ≡ inputs_by_number d
  pub memories : AreMemories d d.memories f.memories
  pub start : whole_state f (flat_start f) ≡ initial d
  pub driven : map (λ p. p.range) f.driven ≡ map range_of (driven_parts d)
  pub registers : OwnedBy (register_parts d) f.registers
  pub drives : (r : ℕ) (x : Driver) → slice_get (drivers d) r ≡ Some x → DriverStands f d r x
  pub reads : AllRead f d (driven_parts d) f.driven
  pub next_state : (s : State) (row : List ℕ) (v : Values) → StateFits f s → RowFits d row
      → Settles d (whole_state f s) row v
      → (whole_state f (flat_next f s v) ≡ next d (whole_state f s) v) × StateFits f (flat_next f s v)
  pub blocks_stand : map (λ x. Some x.scope) f.blocks ≡ map (block_scope d) (blocks d)
  pub assertions : (b : ℕ) (x : Block) → slice_get (blocks d) b ≡ Some x → HasAssertions f b x
  pub fired : (b : ℕ) (x : Block) → slice_get (blocks d) b ≡ Some x → BlockStands f d b x
  pub local : (b : ℕ) (x : Block) → slice_get (blocks d) b ≡ Some x → IsLocal f d b x
