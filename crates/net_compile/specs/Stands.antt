-- Where numbers of a cycle stand in a program that is being built. This project's own.
use Rattle.std.specs.Prelude.{◌≡◌, ℕ, ◌+◌, ◌^◌, ◌<◌, List, slice_index, slice_index_or, Option, Some, None, pos}
use Rattle.bit_ops.specs.Operators as ops
use Rattle.netlist.specs.Design.{Flat}
use Rattle.netlist.specs.Fits.{IsWidth}
use Rattle.netlist.specs.Run.{all_words}
use Rattle.netlist.specs.Values.{width_at, node_values, operation_value}
use Rattle.netlist.specs.declared.node.Operation.{Operation}
use Rattle.step_program.specs.Values.{Slots, is_narrow_width}
use Rattle.step_program.specs.Fits.{is_narrow_slot}
use Rattle.step_program.specs.Draft.{Draft, IsPlaced, IsGiven, value_in}
use Rattle.step_program.specs.declared.step.Slot.{Slot}
use Rattle.step_program.specs.declared.step.Operand.{Operand}
use Rattle.net_compile.specs.Cycle.{Front, Cycle}

-- ---- drafts, for all words and all numbers that are given

-- steps were put in: what stood in a slot stands there
pub record Grows (old new : Draft) : Type 0 where
  pub narrow : new.narrow ≡ old.narrow
  pub wide : new.wide ≡ old.wide
  pub placed : (s : Slot) → IsPlaced old s → IsPlaced new s
  pub same : (words : List (List ℕ)) (given : Slots) (s : Slot) → IsGiven old.narrow old.wide given → IsPlaced old s
      → value_in new words given s ≡ value_in old words given s

-- the slot is there, and it is of the kind of this width
pub record HasKind (d : Draft) (slot : Slot) (width : ℕ) : Type 0 where
  pub placed : IsPlaced d slot
  pub kind : is_narrow_slot slot ≡ is_narrow_width width

-- a slot holds the bits of another, from a place on
pub record IsCut (old new : Draft) (of : Operand) (from width : ℕ) (slot : Slot) : Type 0 where
  pub there : HasKind new slot width
  pub value : (words : List (List ℕ)) (given : Slots) → IsGiven old.narrow old.wide given
      → value_in old words given of.slot < 2 ^ of.width
      → value_in new words given slot ≡ ops.select (pos from) width (value_in old words given of.slot)

-- a slot holds two numbers side by side
pub record IsJoined (old new : Draft) (high low : Operand) (slot : Slot) : Type 0 where
  pub there : HasKind new slot (high.width + low.width)
  pub value : (words : List (List ℕ)) (given : Slots) → IsGiven old.narrow old.wide given
      → value_in old words given high.slot < 2 ^ high.width → value_in old words given low.slot < 2 ^ low.width
      → value_in new words given slot
      ≡ ops.concat low.width (value_in old words given high.slot) (value_in old words given low.slot)

-- ---- cycles

-- the draft has the given slots of the front
pub record Begins (front : Front) (d : Draft) : Type 0 where
  pub narrow : d.narrow ≡ front.narrow
  pub wide : d.wide ≡ front.wide

-- in each cycle the slot holds this number, which has the width
pub record Stands (f : Flat) (front : Front) (d : Draft) (slot : Slot) (width : ℕ) (number : Cycle f front → ℕ) : Type 0 where
  pub there : HasKind d slot width
  pub wide : IsWidth width
  pub value : (c : Cycle f front) → value_in d (all_words f.memories c.state.memories) c.given slot ≡ number c
  pub fits : (c : Cycle f front) → number c < 2 ^ width

abbrev pub OperandStands : (f : Flat) (front : Front) → Draft → Operand → (Cycle f front → ℕ) → Type 0
OperandStands f front d o number = Stands f front d o.slot o.width number

-- the value of a node, that of an operation, and bits of a signal
abbrev pub node_number : (f : Flat) (front : Front) → ℕ → Cycle f front → ℕ
node_number f front n c = slice_index (node_values f c.values) n

abbrev pub operation_number : (f : Flat) (front : Front) → ℕ → Operation → Cycle f front → ℕ
operation_number f front width x c = operation_value f c.values (node_values f c.values) width x

abbrev pub signal_number : (f : Flat) (front : Front) → ℕ → ℕ → ℕ → Cycle f front → ℕ
signal_number f front signal place width c = ops.select (pos place) width (slice_index c.values.signals signal)

-- the slot of each node that has one holds the node's value
abbrev pub NodesStand : Flat → Front → Draft → List (Option Slot) → Type 0
NodesStand f front d slots = (n : ℕ) (slot : Slot) → slice_index_or slots n None ≡ Some slot
    → Stands f front d slot (width_at f.nodes n) (node_number f front n)
