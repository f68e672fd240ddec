-- A program that is being built: the slots that are given, and the steps so far. This project's own.
use Rattle.std.specs.Prelude.{◌≡◌, ℕ, ◌+◌, List, length}
use Rattle.step_program.specs.Values.{Slots, slot_value, step_value, after, is_narrow}
use Rattle.step_program.specs.Fits.{IsSlot, is_narrow_slot, StepFits, narrow_steps, wide_steps}
use Rattle.step_program.specs.declared.step.Slot.{Slot}
use Rattle.step_program.specs.declared.step.Step.{Step}

-- so many narrow slots and so many wide ones are given; the steps, in the order in which they came
pub record Draft : Type 0 where
  pub narrow : ℕ
  pub wide : ℕ
  pub steps : List Step

-- its slots: those that are given, and one for each step
abbrev pub narrow_count : Draft → ℕ
narrow_count d = d.narrow + narrow_steps d.steps

abbrev pub wide_count : Draft → ℕ
wide_count d = d.wide + wide_steps d.steps

abbrev pub IsPlaced : Draft → Slot → Type 0
IsPlaced d slot = IsSlot (narrow_count d) (wide_count d) slot

abbrev pub Fits : Draft → Step → Type 0
Fits d step = StepFits (narrow_count d) (wide_count d) step

-- numbers for so many given slots
pub record IsGiven (n m : ℕ) (given : Slots) : Type 0 where
  pub narrow : length given.narrow ≡ n
  pub wide : length given.wide ≡ m

-- the number in a slot after the draft's steps, where these are the words of the memories and the given slots
abbrev pub value_in : Draft → List (List ℕ) → Slots → Slot → ℕ
value_in d words given slot = slot_value (after words given d.steps) slot

-- a step was put in: its value stands in this slot, and each earlier slot is there as before, for all words and all
-- numbers that are given
pub record HasStep (old new : Draft) (step : Step) (slot : Slot) : Type 0 where
  pub narrow : new.narrow ≡ old.narrow
  pub wide : new.wide ≡ old.wide
  pub placed : IsPlaced new slot
  pub kind : is_narrow_slot slot ≡ is_narrow step
  pub value : (words : List (List ℕ)) (given : Slots) → IsGiven old.narrow old.wide given
      → value_in new words given slot ≡ step_value words (after words given old.steps) step
  pub still_placed : (s : Slot) → IsPlaced old s → IsPlaced new s
  pub same : (words : List (List ℕ)) (given : Slots) (s : Slot) → IsGiven old.narrow old.wide given → IsPlaced old s
      → value_in new words given s ≡ value_in old words given s
