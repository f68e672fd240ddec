-- Numbers in slots. This project's own.
use Rattle.std.specs.Prelude.{◌≡◌, ℕ, ◌^◌, ◌<◌, List, [], ◌∷◌, length, map, slice_index, slice_set}
use Rattle.step_program.specs.Values.{Slots, slot_value}
use Rattle.step_program.specs.Fits.{IsSlot}
use Rattle.step_program.specs.declared.step.Slot.{Slot}
use Rattle.step_program.specs.declared.step.Slot.TheVariants as at
use Rattle.net_compile.specs.Cycle.{slot_at}

-- what stands in each of these slots
abbrev pub numbers : Slots → List Slot → List ℕ
numbers slots found = map (λ s. slot_value slots s) found

-- with another number in a slot
abbrev pub with_number : Slots → Slot → ℕ → Slots
with_number slots (at.Narrow k) n = record { narrow = slice_set slots.narrow k n; wide = slots.wide }
with_number slots (at.Wide k) n = record { narrow = slots.narrow; wide = slice_set slots.wide k n }

-- with other numbers in these slots, one each
abbrev pub with_numbers : Slots → List Slot → List ℕ → Slots
with_numbers slots [] ns = slots
with_numbers slots (s ∷ more) [] = slots
with_numbers slots (s ∷ more) (n ∷ ns) = with_numbers (with_number slots s n) more ns

-- the slot holds numbers as great as this one
abbrev pub Takes : Slot → ℕ → Type 0
Takes (at.Narrow k) n = n < 2 ^ 64
Takes (at.Wide k) n = n < 2 ^ 128

-- each number has a slot that is there and takes it
pub record AllTake (n m : ℕ) (found : List Slot) (ns : List ℕ) : Type 0 where
  pub count : length found ≡ length ns
  pub there : (k : ℕ) → k < length ns → IsSlot n m (slot_at found k)
  pub takes : (k : ℕ) → k < length ns → Takes (slot_at found k) (slice_index ns k)
