-- A cycle of a numbered design, as the given slots of its program hold it. This project's own.
use Rattle.std.specs.Prelude.{◌≡◌, ◌≢◌, ℕ, ◌+◌, ◌^◌, ◌<◌, List, [], ◌++◌, length, map, slice_get, slice_index, slice_index_or, Some}
use Rattle.std.specs.Option.{option_map, unwrap_or}
use Rattle.netlist.specs.Design.{Flat}
use Rattle.netlist.specs.Plain.{PlainMemory}
use Rattle.netlist.specs.Run.{State, FlatSettles, all_words}
use Rattle.netlist.specs.Values.{Values}
use Rattle.netlist.specs.declared.design.Signal.{Signal}
use Rattle.netlist.specs.declared.design.RegisterPart.{RegisterPart}
use Rattle.step_program.specs.Values.{Slots, slot_value, is_narrow_width}
use Rattle.step_program.specs.Fits.{IsSlot, is_narrow_slot}
use Rattle.step_program.specs.Draft.{IsGiven}
use Rattle.step_program.specs.declared.step.Slot.{Slot}
use Rattle.step_program.specs.declared.step.Slot.TheVariants as at

-- ---- given slots

abbrev pub signal_width : List Signal → ℕ → ℕ
signal_width signals k = unwrap_or (option_map (λ s. s.width) (slice_get signals k)) 0

-- the widths of what is given: of the register parts, then of the data inputs
abbrev pub register_widths : List RegisterPart → List ℕ
register_widths registers = map (λ p. p.range.width) registers

abbrev pub input_widths : List Signal → List ℕ → List ℕ
input_widths signals inputs = map (λ k. signal_width signals k) inputs

abbrev pub given_widths : Flat → List ℕ
given_widths f = register_widths f.registers ++ input_widths f.signals f.inputs

-- so many narrow slots and so many wide ones are given, and these, one for each register part, then one for each data
-- input
pub record Front : Type 0 where
  pub narrow : ℕ
  pub wide : ℕ
  pub slots : List Slot

abbrev pub slot_at : List Slot → ℕ → Slot
slot_at slots k = slice_index_or slots k (at.Narrow 0)

-- of each width a slot of its own, narrow where it is at most 64
pub record HasSlots (widths : List ℕ) (front : Front) : Type 0 where
  pub count : length front.slots ≡ length widths
  pub within : (k : ℕ) → k < length widths → IsSlot front.narrow front.wide (slot_at front.slots k)
  pub kind : (k : ℕ) → k < length widths
      → is_narrow_slot (slot_at front.slots k) ≡ is_narrow_width (slice_index widths k)
  pub apart : (j k : ℕ) → j < k → k < length widths → slot_at front.slots j ≢ slot_at front.slots k

-- ---- cycles

-- each number of a state is below 2^width
pub record StateFits (f : Flat) (s : State) : Type 0 where
  pub registers : (k : ℕ) (d : RegisterPart) → k < length f.registers
      → slice_index s.registers k < 2 ^ (slice_index_or f.registers k d).range.width
  pub words : (k i : ℕ) (m : PlainMemory) → slice_get f.memories k ≡ Some m
      → slice_index (slice_index_or (all_words f.memories s.memories) k []) i < 2 ^ m.width

-- so is each number of a row
abbrev pub RowFits : Flat → List ℕ → Type 0
RowFits f row = (k : ℕ) → k < length f.inputs → slice_index row k < 2 ^ signal_width f.signals (slice_index f.inputs k)

-- the given slots hold the values of the register parts and those of the row
pub record Holds (f : Flat) (front : Front) (s : State) (row : List ℕ) (given : Slots) : Type 0 where
  pub counts : IsGiven front.narrow front.wide given
  pub registers : (k : ℕ) → k < length f.registers
      → slot_value given (slot_at front.slots k) ≡ slice_index s.registers k
  pub inputs : (k : ℕ) → k < length f.inputs
      → slot_value given (slot_at front.slots (length f.registers + k)) ≡ slice_index row k

-- a state and a row that fit, values that settle with them, and slots that hold them
pub record Cycle (f : Flat) (front : Front) : Type 0 where
  pub state : State
  pub row : List ℕ
  pub values : Values
  pub given : Slots
  pub state_fits : StateFits f state
  pub row_fits : RowFits f row
  pub settles : FlatSettles f state row values
  pub holds : Holds f front state row given
