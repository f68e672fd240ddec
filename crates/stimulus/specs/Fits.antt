-- Rows that fit the data inputs. This project's own.
use Rattle.std.specs.Prelude.{◌≡◌, ℕ, ◌^◌, ◌<◌, ◌≤◌, List, [], ◌∷◌, length, All}
use Rattle.dt_core.specs.declared.limits.TheConstants.{MAX_ROWS}
use Rattle.stimulus.specs.declared.refusal.Input.{Input}
use Rattle.stimulus.specs.Stimulus.{width_of}

-- the width of each input is that of its name, as it is where no name stands twice
abbrev pub AreNamed : List Input → Type 0
AreNamed inputs = All (λ i. width_of inputs i.name ≡ i.width) inputs

-- a number for each input, and each below 2 ^ its width
abbrev pub Fit : List Input → List ℕ → Type 0
Fit [] [] = Unit {0}
Fit (i ∷ inputs) (x ∷ xs) = (x < 2 ^ i.width) × Fit inputs xs
Fit _ _ = ⊥

-- few enough rows, and each of them fits
abbrev pub AreRows : List Input → List (List ℕ) → Type 0
AreRows inputs rs = (length rs ≤ MAX_ROWS) × All (λ r. Fit inputs r) rs
