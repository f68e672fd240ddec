-- What follows from the definitions. This project's own.
use Rattle.std.specs.Prelude.{ℕ, ◌^◌, ◌<◌, List, slice_set}
use Rattle.step_program.specs.Values.{Slots, rare_value}
use Rattle.step_program.specs.Fits.{RareFits}
use Rattle.step_program.specs.Plan.{Plan, IsReady}
use Rattle.step_program.specs.declared.step.Rare.{Rare}

-- A law: the value of a rare step has the step's width.
abbrev pub FitsLaw : Type 0
FitsLaw = (words : List (List ℕ)) (slots : Slots) (n m : ℕ) (r : Rare) → RareFits n m r
    → rare_value words slots r < 2 ^ r.width

-- the slots with another number in one of them
abbrev pub with_narrow : Slots → ℕ → ℕ → Slots
with_narrow s k n = record { narrow = slice_set s.narrow k n; wide = s.wide }

abbrev pub with_wide : Slots → ℕ → ℕ → Slots
with_wide s k n = record { narrow = s.narrow; wide = slice_set s.wide k n }

-- A law: a number that is written to a given slot leaves the memory ready.
pub record ReadyLaw : Type 0 where
  pub narrow : (p : Plan) (s : Slots) (k n : ℕ) → k < p.narrow → IsReady p s → IsReady p (with_narrow s k n)
  pub wide : (p : Plan) (s : Slots) (k n : ℕ) → k < p.wide → IsReady p s → IsReady p (with_wide s k n)
