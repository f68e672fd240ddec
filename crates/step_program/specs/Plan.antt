-- A program that runs: its given slots, constants that stand after them, and steps. This project's own.
use Rattle.std.specs.Prelude.{◌≡◌, ℕ, ◌+◌, List, ◌++◌, length, take, drop}
use Rattle.step_program.specs.Values.{Slots, slot_value, after}
use Rattle.step_program.specs.Fits.{IsSlot, narrow_steps, wide_steps}
use Rattle.step_program.specs.Draft.{Draft, IsPlaced, IsGiven, value_in}
use Rattle.step_program.specs.Table.{Table, stands}
use Rattle.step_program.specs.declared.words.SlotValues.{SlotValues}
use Rattle.step_program.specs.declared.step.Slot.{Slot}
use Rattle.step_program.specs.declared.step.Step.{Step}

-- so many narrow slots and so many wide ones are given; the constants of each kind; the steps, in the order in which
-- they are done
pub record Plan : Type 0 where
  pub narrow : ℕ
  pub wide : ℕ
  pub narrow_constants : List ℕ
  pub wide_constants : List ℕ
  pub steps : List Step

-- the slots in front of the steps: those that are given and the constants
abbrev pub narrow_front : Plan → ℕ
narrow_front p = p.narrow + length p.narrow_constants

abbrev pub wide_front : Plan → ℕ
wide_front p = p.wide + length p.wide_constants

abbrev pub narrow_total : Plan → ℕ
narrow_total p = narrow_front p + narrow_steps p.steps

abbrev pub wide_total : Plan → ℕ
wide_total p = wide_front p + wide_steps p.steps

-- what the program's memory holds
abbrev pub held : SlotValues → Slots
held s = record { narrow = s.narrow.items; wide = s.wide.items }

-- the slots when the steps begin
abbrev pub started : Plan → Slots → Slots
started p given = record {
  narrow = given.narrow ++ p.narrow_constants;
  wide = given.wide ++ p.wide_constants;
}

-- the slots when they are done
abbrev pub ran : Plan → List (List ℕ) → Slots → Slots
ran p words given = after words (started p given) p.steps

-- the given slots of the program's memory
abbrev pub given_in : Plan → Slots → Slots
given_in p slots = record { narrow = take p.narrow slots.narrow; wide = take p.wide slots.wide }

-- the memory has the program's slots, and its constants in their places
pub record IsReady (p : Plan) (slots : Slots) : Type 0 where
  pub narrow : length slots.narrow ≡ narrow_total p
  pub wide : length slots.wide ≡ wide_total p
  pub narrow_constants : take (length p.narrow_constants) (drop p.narrow slots.narrow) ≡ p.narrow_constants
  pub wide_constants : take (length p.wide_constants) (drop p.wide slots.wide) ≡ p.wide_constants

-- the program does what the draft says: each slot of the draft has its value in the program's slot for it, for all
-- words and all numbers that are given
pub record Carries (d : Draft) (p : Plan) (t : Table) : Type 0 where
  pub narrow : p.narrow ≡ d.narrow
  pub wide : p.wide ≡ d.wide
  pub within : (s : Slot) → IsPlaced d s → IsSlot (narrow_total p) (wide_total p) (stands t s)
  pub value : (words : List (List ℕ)) (given : Slots) (s : Slot) → IsGiven d.narrow d.wide given → IsPlaced d s
      → slot_value (ran p words given) (stands t s) ≡ value_in d words given s
