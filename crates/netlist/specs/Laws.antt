-- What follows from well-formedness. This project's own.
use Rattle.std.specs.Prelude.{◌≡◌, ℕ, ◌+◌, ◌-◌, ◌<◌, ◌≤◌, Bool, false, List, [], length, slice_get, slice_index, slice_index_or, Some}
use Rattle.std.specs.Int.{bit_at}
use Rattle.netlist.specs.Design.{Flat}
use Rattle.netlist.specs.Graph.{operands, node_reads, nodes_read}
use Rattle.netlist.specs.Fits.{IsWellFormed}
use Rattle.netlist.specs.Order.{IsOrder, flat_val}
use Rattle.netlist.specs.Run.{State, FlatSettles, role_value, all_words}
use Rattle.netlist.specs.Values.{Values, node_value, node_values}
use Rattle.netlist.specs.declared.node.Node.{Node}
use Rattle.netlist.specs.declared.design.Range.{Range}
use Rattle.netlist.specs.declared.design.Signal.{Signal}
use Rattle.netlist.specs.declared.design.DrivenPart.{DrivenPart}
use Rattle.netlist.specs.declared.design.RegisterPart.{RegisterPart}

-- the bit of a signal at a place lies in a range
abbrev pub HasBit : Range → ℕ → ℕ → Type 0
HasBit r signal place = (r.signal ≡ signal) × (r.low ≤ place) × (place < r.low + r.width)

-- a bit that lies in two driven parts lies in one, so of register parts, and none lies in one of each
pub record BitsLieInOnePart (f : Flat) : Type 0 where
  pub driven : (i j s k : ℕ) (d : DrivenPart) → i < length f.driven → j < length f.driven
      → HasBit (slice_index_or f.driven i d).range s k → HasBit (slice_index_or f.driven j d).range s k → i ≡ j
  pub registers : (i j s k : ℕ) (d : RegisterPart) → i < length f.registers → j < length f.registers
      → HasBit (slice_index_or f.registers i d).range s k → HasBit (slice_index_or f.registers j d).range s k → i ≡ j
  pub both : (i j s k : ℕ) (d : DrivenPart) (e : RegisterPart) → i < length f.driven → j < length f.registers
      → HasBit (slice_index_or f.driven i d).range s k → HasBit (slice_index_or f.registers j e).range s k → ⊥

-- A law: no bit lies in two parts of a well-formed design.
abbrev pub PartsLaw : Type 0
PartsLaw = (f : Flat) → IsWellFormed f → BitsLieInOnePart f

-- one value for each node: that of its operation over these values themselves
pub record AreValues (f : Flat) (v : Values) (xs : List ℕ) : Type 0 where
  pub count : length xs ≡ length f.nodes
  pub each : (k : ℕ) (x : Node) → slice_get f.nodes k ≡ Some x → slice_index xs k ≡ node_value f v xs x

-- A law: the nodes of a well-formed design have values over each valuation, and no others.
pub record ValuesLaw : Type 0 where
  pub are : (f : Flat) (v : Values) → IsWellFormed f → AreValues f v (node_values f v)
  pub alone : (f : Flat) (v : Values) (xs : List ℕ) → IsWellFormed f → AreValues f v xs → xs ≡ node_values f v

-- one answer for each node: that of its operation over these answers themselves
pub record AreReads (f : Flat) (q : Range) (rs : List Bool) : Type 0 where
  pub count : length rs ≡ length f.nodes
  pub each : (k : ℕ) (x : Node) → slice_get f.nodes k ≡ Some x → slice_index_or rs k false ≡ node_reads q rs x

-- A law: a node of a well-formed design reads bits of a range exactly where its operation does, or a node that it
-- reads.
abbrev pub ReadsLaw : Type 0
ReadsLaw = (f : Flat) (q : Range) → IsWellFormed f → AreReads f q (nodes_read q [] f.nodes)

-- A law: a node of a well-formed design reads lower nodes alone.
abbrev pub OperandsLaw : Type 0
OperandsLaw = (f : Flat) (k : ℕ) (x : Node) (i : ℕ) → IsWellFormed f → slice_get f.nodes k ≡ Some x
    → i < length (operands x.operation) → slice_index (operands x.operation) i < k

-- v settles with a state and a row, and nothing else does
pub record SettlesAlone (f : Flat) (s : State) (row : List ℕ) (v : Values) : Type 0 where
  pub settles : FlatSettles f s row v
  pub alone : (u : Values) → FlatSettles f s row u → u ≡ v

-- A law: where a well-formed design has an order, one valuation settles with each state and each row, and it is that of
-- the order.
abbrev pub SettlesOnce : Type 0
SettlesOnce = (f : Flat) (order : List ℕ) (s : State) (row : List ℕ) → IsWellFormed f → IsOrder f order
    → SettlesAlone f s row (flat_val f order s row)

-- the bit of a signal lies in no part
pub record LiesInNone (f : Flat) (signal place : ℕ) : Type 0 where
  pub driven : (k : ℕ) (d : DrivenPart) → k < length f.driven → HasBit (slice_index_or f.driven k d).range signal place → ⊥
  pub registers : (k : ℕ) (d : RegisterPart) → k < length f.registers
      → HasBit (slice_index_or f.registers k d).range signal place → ⊥

-- the bit of n at a place of a range is the one that v has there
abbrev pub HasBitOf : Values → Range → ℕ → ℕ → Type 0
HasBitOf v r place n = bit_at (slice_index v.signals r.signal) place ≡ bit_at n (place - r.low)

-- a driven part has the bits of its node, a register part those of its value in the state; a bit in no part is the
-- row's, or what its signal keeps there
pub record HasBitsOfParts (f : Flat) (s : State) (row : List ℕ) (v : Values) : Type 0 where
  pub memories : v.memories ≡ all_words f.memories s.memories
  pub driven : (k i : ℕ) (d : DrivenPart) → k < length f.driven
      → HasBit (slice_index_or f.driven k d).range (slice_index_or f.driven k d).range.signal i
      → HasBitOf v (slice_index_or f.driven k d).range i (slice_index (node_values f v) (slice_index_or f.driven k d).node)
  pub registers : (k i : ℕ) (d : RegisterPart) → k < length f.registers
      → HasBit (slice_index_or f.registers k d).range (slice_index_or f.registers k d).range.signal i
      → HasBitOf v (slice_index_or f.registers k d).range i (slice_index s.registers k)
  pub others : (t i : ℕ) (x : Signal) → slice_get f.signals t ≡ Some x → LiesInNone f t i
      → bit_at (slice_index v.signals t) i ≡ bit_at (role_value row x.kept x.role) i

-- A law: what settles with a well-formed design has the bits of its parts.
abbrev pub BitsLaw : Type 0
BitsLaw = (f : Flat) (s : State) (row : List ℕ) (v : Values) → IsWellFormed f → FlatSettles f s row v
    → HasBitsOfParts f s row v
