-- The promise of the top call. This project's own.
use Rattle.std.specs.Prelude.{◌≡◌, ℕ, List, ◌⊎◌}
use Rattle.dessert.specs.Outside.{Outside}
use Rattle.dessert.specs.Answer.{Status, number, Answers}
use Rattle.dessert.specs.Outcome.{layers}
use Rattle.dessert.specs.Complete.{AllWell}
use Rattle.dessert.specs.Steps.{AreFew}

-- to these words the call answered this number, from one state of the outside to the next
pub record IsAnswer (words : List (List ℕ)) (old new : Outside) (result : ℕ) : Type 0 where
  pub status : Status
  pub number_is : result ≡ number status
  pub answers : Answers layers words old new status
  pub steps : AreFew words old new

-- where all is well outside, a run has no failure, or one, or there was not enough memory
abbrev pub IsComplete : List (List ℕ) → Outside → Outside → ℕ → Type 0
IsComplete words old new result = AllWell words old new → (result ≡ 0) ⊎ ((result ≡ 1) ⊎ (result ≡ 9))
