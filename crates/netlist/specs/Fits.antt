-- Which designs are well-formed. This project's own.
use Rattle.std.specs.Prelude.{◌≡◌, ℕ, zero, suc, ◌+◌, ◌-◌, ◌*◌, ◌^◌, ◌<◌, ◌≤◌, ◌⊎◌, true, max, min, List, length, take, slice_index_or, slice_get, Option, Some, None, IsSomeAnd, is_some, count_by, sum_by}
use Rattle.std.specs.List.{All}
use Rattle.std.specs.Option.{ForSome}
use Rattle.dt_core.specs.declared.limits.TheConstants.{MAX_WIDTH, MAX_SIGNALS, MAX_INPUTS, MAX_INPUT_BITS, MAX_WORDS}
use Rattle.bit_ops.specs.declared.operator.Binary.{Binary}
use Rattle.bit_ops.specs.Applied.{unary_width, binary_width, takes_one_width}
use Rattle.netlist.specs.Plain.{PlainMemory, PlainBlock}
use Rattle.netlist.specs.Design.{Flat}
use Rattle.netlist.specs.declared.design.Role.{Role}
use Rattle.netlist.specs.declared.design.Role.TheVariants as role
use Rattle.netlist.specs.declared.design.Scope.{Scope}
use Rattle.netlist.specs.declared.design.Signal.{Signal}
use Rattle.netlist.specs.declared.design.Range.{Range}
use Rattle.netlist.specs.declared.design.DrivenPart.{DrivenPart}
use Rattle.netlist.specs.declared.design.RegisterPart.{RegisterPart}
use Rattle.netlist.specs.declared.design.Effect.{Effect}
use Rattle.netlist.specs.declared.design.Effect.TheVariants as e
use Rattle.netlist.specs.declared.design.Event.{Event}
use Rattle.netlist.specs.declared.design.MemoryWrite.{MemoryWrite}
use Rattle.netlist.specs.declared.node.Node.{Node}
use Rattle.netlist.specs.declared.node.Operation.{Operation}
use Rattle.netlist.specs.declared.node.Operation.TheVariants as o

-- each element of a list fits, with its place
abbrev pub AllAt : {X : Type 0} → (ℕ → X → Type 0) → List X → Type 0
AllAt {X} P xs = (k : ℕ) (d : X) → k < length xs → P k (slice_index_or xs k d)

-- a width that a vector can have
abbrev pub IsWidth : ℕ → Type 0
IsWidth w = (1 ≤ w) × (w ≤ MAX_WIDTH)

-- a number, where there is one, is below the count
abbrev pub IsNoneOrBelow : ℕ → Option ℕ → Type 0
IsNoneOrBelow count k = ForSome k (λ n. n < count)

-- the node is there, and its width is one of which P holds
abbrev pub HasNode : List Node → ℕ → (ℕ → Type 0) → Type 0
HasNode nodes k P = IsSomeAnd (slice_get nodes k) (λ x. P x.width)

abbrev pub IsNode : List Node → ℕ → Type 0
IsNode nodes k = HasNode nodes k (λ w. Unit {0})

-- the range's signal is there, and the range lies within it
abbrev pub LiesWithin : List Signal → Range → Type 0
LiesWithin signals r = IsSomeAnd (slice_get signals r.signal) (λ s. r.low + r.width ≤ s.width)

-- the memory is there, and its words have the width
abbrev pub HasWords : List PlainMemory → ℕ → ℕ → Type 0
HasWords memories k width = IsSomeAnd (slice_get memories k) (λ m. m.width ≡ width)

-- ---- nodes

-- the operator takes nodes of these widths and gives this one
abbrev pub BinaryFits : List Node → ℕ → Binary → ℕ → ℕ → Type 0
BinaryFits lower w operator a b =
    HasNode lower a (λ v. (w ≡ binary_width operator v) × HasNode lower b (λ u. takes_one_width operator ≡ true
    → v ≡ u))

-- the widths of the two nodes are this one together
abbrev pub ConcatFits : List Node → ℕ → ℕ → ℕ → Type 0
ConcatFits lower w a b = HasNode lower a (λ v. HasNode lower b (λ u. v + u ≡ w))

-- an operation reads nodes of the list alone, whose widths and its own are those that the call of `bit_ops` takes and
-- gives; a constant is below 2^width; the signal or the memory that it reads is there
abbrev pub OperationFits : List Signal → List PlainMemory → List Node → ℕ → Operation → Type 0
OperationFits ss ms lower w (o.Constant value) = value < 2 ^ w
OperationFits ss ms lower w (o.Bits range) = (range.width ≡ w) × LiesWithin ss range
OperationFits ss ms lower w (o.Word memory index) = HasWords ms memory w × IsNode lower index.node
OperationFits ss ms lower w (o.Unary operator a) = HasNode lower a (λ v. w ≡ unary_width operator v)
OperationFits ss ms lower w (o.Binary operator signed a b) = BinaryFits lower w operator a b
OperationFits ss ms lower w (o.Extend signed a) = HasNode lower a (λ v. v ≤ w)
OperationFits ss ms lower w (o.Cut a) = HasNode lower a (λ v. w ≤ v)
OperationFits ss ms lower w (o.Select a place) = IsNode lower a × IsNode lower place.node
OperationFits ss ms lower w (o.Insert a place b) = HasNode lower a (λ v. v ≡ w) × IsNode lower place.node
    × IsNode lower b
OperationFits ss ms lower w (o.Concat a b) = ConcatFits lower w a b
OperationFits ss ms lower w (o.Choose c a b) = IsNode lower c × HasNode lower a (λ v. v ≡ w)
    × HasNode lower b (λ v. v ≡ w)
OperationFits ss ms lower w (o.Keep a b) = HasNode lower a (λ v. v ≡ w) × IsNode lower b

-- a node fits these lower ones
abbrev pub FitsAbove : List Signal → List PlainMemory → List Node → Node → Type 0
FitsAbove ss ms lower x = IsWidth x.width × OperationFits ss ms lower x.width x.operation

-- a node of a number fits those below it
abbrev pub NodeFits : List Signal → List PlainMemory → List Node → ℕ → Node → Type 0
NodeFits ss ms nodes k x = FitsAbove ss ms (take k nodes) x

-- ---- scopes and signals

-- the first scope stands in none, each other one in a lower one
abbrev pub StandsRight : ℕ → Option ℕ → Type 0
StandsRight zero parent = parent ≡ None
StandsRight (suc k) parent = IsSomeAnd parent (λ p. p < suc k)

abbrev pub ScopeFits : ℕ → Scope → Type 0
ScopeFits k s = StandsRight k s.parent

-- the signal stands at this place among the data inputs
abbrev pub IsAt : List ℕ → ℕ → ℕ → Type 0
IsAt inputs i k = slice_get inputs i ≡ Some k

-- a clock name has one bit; a data input has a number in the order of the ports, and is the signal that stands there
abbrev pub RoleFits : List ℕ → ℕ → ℕ → Role → Type 0
RoleFits inputs k w role.Clock = w ≡ 1
RoleFits inputs k w (role.Input i) = IsAt inputs i k
RoleFits inputs k w role.Inner = Unit {0}

-- a signal of this number, beside so many scopes
abbrev pub SignalFits : ℕ → List ℕ → ℕ → Signal → Type 0
SignalFits scopes inputs k s = IsNoneOrBelow scopes s.scope × IsWidth s.width × RoleFits inputs k s.width s.role
    × (s.kept < 2 ^ s.width)

-- the role is that of the data input of this number
abbrev pub IsInput : Role → ℕ → Type 0
IsInput r k = r ≡ role.Input k

-- the role is neither that of a clock name nor that of a data input
abbrev pub IsInner : Role → Type 0
IsInner r = r ≡ role.Inner

-- a signal that stands in the list of data inputs has the role of that input
abbrev pub InputFits : List Signal → ℕ → ℕ → Type 0
InputFits signals k signal = IsSomeAnd (slice_get signals signal) (λ s. IsInput s.role k)

-- ---- parts

-- the range stands before the other: in a lower signal, or in the same one and ends where the other begins or before
abbrev pub IsBefore : Range → Range → Type 0
IsBefore r q = (r.signal < q.signal) ⊎ ((r.signal ≡ q.signal) × (r.low + r.width ≤ q.low))

-- each element's range stands before that of the one after it
abbrev pub AreInOrder : {X : Type 0} → (X → Range) → List X → Type 0
AreInOrder {X} range xs = (k : ℕ) (d : X) → suc k < length xs
    → IsBefore (range (slice_index_or xs k d)) (range (slice_index_or xs (suc k) d))

-- no bit lies in both
abbrev pub AreApart : Range → Range → Type 0
AreApart r q = IsBefore r q ⊎ IsBefore q r

-- the range's signal is neither a data input nor a clock name, and the range lies within it
abbrev pub PlaceFits : List Signal → Range → Type 0
PlaceFits signals r = IsSomeAnd (slice_get signals r.signal) (λ s. IsInner s.role × (r.low + r.width ≤ s.width))

abbrev pub DrivenFits : List Signal → List Node → DrivenPart → Type 0
DrivenFits signals nodes p = PlaceFits signals p.range × HasNode nodes p.node (λ w. w ≡ p.range.width)

-- a value of this width
abbrev pub InitialFits : ℕ → ℕ → Type 0
InitialFits w n = IsWidth w × (n < 2 ^ w)

-- a register part, beside so many blocks
abbrev pub RegisterFits : ℕ → List Signal → List Node → RegisterPart → Type 0
RegisterFits blocks signals nodes p = PlaceFits signals p.range × (p.block < blocks)
    × HasNode nodes p.next (λ w. w ≡ p.range.width)
    × InitialFits p.range.width p.initial

-- driven parts in order of signal, then of place, and register parts
abbrev pub DrivenInOrder : List DrivenPart → Type 0
DrivenInOrder driven = AreInOrder (λ p. p.range) driven

abbrev pub RegistersInOrder : List RegisterPart → Type 0
RegistersInOrder registers = AreInOrder (λ p. p.range) registers

-- no bit lies in a driven part and in a register part
abbrev pub AreAllApart : List DrivenPart → List RegisterPart → Type 0
AreAllApart driven registers = (i j : ℕ) (d : DrivenPart) (e : RegisterPart) → i < length driven → j < length registers
    → AreApart (slice_index_or driven i d).range (slice_index_or registers j e).range

-- the driven parts from a number up to another stand before the range
abbrev pub StandBefore : List DrivenPart → ℕ → ℕ → Range → Type 0
StandBefore driven from to range = (k : ℕ) (d : DrivenPart) → from ≤ k → k < to
    → IsBefore (slice_index_or driven k d).range range

-- the driven part of this number, if there is one, doesn't stand before the range
abbrev pub IsNotBefore : List DrivenPart → ℕ → Range → Type 0
IsNotBefore driven k range = (d : DrivenPart) → k < length driven → ¬ (IsBefore (slice_index_or driven k d).range range)

-- the range stands before the driven part of this number, if there is one
abbrev pub IsBeforePart : Range → List DrivenPart → ℕ → Type 0
IsBeforePart range driven k = (d : DrivenPart) → k < length driven → IsBefore range (slice_index_or driven k d).range

-- ---- memories, writes and blocks

-- the number of words from the one index to the other
abbrev pub word_count : ℕ → ℕ → ℕ
word_count first last = max first last - min first last + 1

abbrev pub MemoryFits : ℕ → PlainMemory → Type 0
MemoryFits blocks m = IsWidth m.width × (length m.words ≡ word_count m.first m.last)
    × All (λ w. w < 2 ^ m.width) m.words
    × IsNoneOrBelow blocks m.writer

-- there is a number, and it is this one
abbrev pub IsSomeOf : Option ℕ → ℕ → Type 0
IsSomeOf number k = number ≡ Some k

-- the memory is there, and the block is its writer
abbrev pub IsWrittenBy : List PlainMemory → ℕ → ℕ → Type 0
IsWrittenBy memories k block = IsSomeAnd (slice_get memories k) (λ m. IsSomeOf m.writer block)

-- the write is by the block that is its memory's one writer
abbrev pub WriteFits : ℕ → List PlainMemory → List Node → MemoryWrite → Type 0
WriteFits blocks memories nodes w = (w.block < blocks) × IsWrittenBy memories w.memory w.block
    × IsNode nodes w.condition × IsNode nodes w.index.node × IsNode nodes w.place.node
    × HasNode nodes w.value (λ v. v ≡ w.width)

abbrev pub EffectFits : List Node → Effect → Type 0
EffectFits nodes (e.Said text) = Unit {0}
EffectFits nodes (e.Showed shown) = IsNode nodes shown.node
EffectFits nodes (e.Stopped place fatal) = Unit {0}

abbrev pub EventFits : List Node → Event → Type 0
EventFits nodes x = IsNode nodes x.condition × EffectFits nodes x.effect

abbrev pub BlockFits : ℕ → List Node → PlainBlock → Type 0
BlockFits scopes nodes b = (b.scope < scopes) × All (EventFits nodes) b.events

-- ---- the whole design

-- the bits of a signal that a row gives
abbrev pub input_width : ℕ → Role → ℕ
input_width w role.Clock = 0
input_width w (role.Input i) = w
input_width w role.Inner = 0

-- signals that stand in a scope are no more than the limit; so data inputs, their bits, and memory words
abbrev pub HasFewSignals : List Signal → Type 0
HasFewSignals signals = count_by (λ s. is_some s.scope) signals ≤ MAX_SIGNALS

abbrev pub HasFewInputs : List Signal → List ℕ → Type 0
HasFewInputs signals inputs = (length inputs ≤ MAX_INPUTS) × (sum_by
    (λ s. input_width s.width s.role) signals ≤ MAX_INPUT_BITS)

abbrev pub HasFewWords : List PlainMemory → Type 0
HasFewWords memories = sum_by (λ m. length m.words) memories ≤ MAX_WORDS

-- the events of all blocks together
abbrev pub event_count : List PlainBlock → ℕ
event_count blocks = sum_by (λ b. length b.events) blocks

-- the bits of all memory words, and those of all register parts with them
abbrev pub memory_bits : List PlainMemory → ℕ
memory_bits memories = sum_by (λ m. m.width * length m.words) memories

abbrev pub state_bits : List RegisterPart → List PlainMemory → ℕ
state_bits registers memories = sum_by (λ p. p.range.width) registers + memory_bits memories

-- of each kind that is numbered there are fewer than 2^32
pub record IsNumbered (f : Flat) : Type 0 where
  pub scopes : length f.scopes < 2 ^ 32
  pub signals : length f.signals < 2 ^ 32
  pub driven : length f.driven < 2 ^ 32
  pub registers : length f.registers < 2 ^ 32
  pub memories : length f.memories < 2 ^ 32
  pub nodes : length f.nodes < 2 ^ 32
  pub writes : length f.writes < 2 ^ 32
  pub blocks : length f.blocks < 2 ^ 32
  pub events : event_count f.blocks < 2 ^ 32

-- each signal fits, so does each data input, and there are no more than the limits
pub record SignalsFit (f : Flat) : Type 0 where
  pub each : AllAt (SignalFits (length f.scopes) f.inputs) f.signals
  pub inputs : AllAt (InputFits f.signals) f.inputs
  pub few : HasFewSignals f.signals
  pub few_inputs : HasFewInputs f.signals f.inputs

-- each part has a place and a node of its width, and no bit lies in two of them
pub record PartsFit (f : Flat) : Type 0 where
  pub driven : All (DrivenFits f.signals f.nodes) f.driven
  pub registers : All (RegisterFits (length f.blocks) f.signals f.nodes) f.registers
  pub driven_order : DrivenInOrder f.driven
  pub register_order : RegistersInOrder f.registers
  pub apart : AreAllApart f.driven f.registers

-- each memory and each write fits, and there are no more words and bits than the limits
pub record MemoriesFit (f : Flat) : Type 0 where
  pub each : All (MemoryFits (length f.blocks)) f.memories
  pub writes : All (WriteFits (length f.blocks) f.memories f.nodes) f.writes
  pub few : HasFewWords f.memories
  pub few_bits : state_bits f.registers f.memories < 2 ^ 32

-- the parts of a design fit together
pub record IsWellFormed (f : Flat) : Type 0 where
  pub numbered : IsNumbered f
  pub top : 0 < length f.scopes
  pub scopes : AllAt ScopeFits f.scopes
  pub signals : SignalsFit f
  pub nodes : AllAt (NodeFits f.signals f.memories f.nodes) f.nodes
  pub parts : PartsFit f
  pub memories : MemoriesFit f
  pub blocks : All (BlockFits (length f.scopes) f.nodes) f.blocks
