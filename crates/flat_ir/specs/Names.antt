-- The names of a numbered design's data inputs, and which numbers fit its widths. This project's own.
use Rattle.std.specs.Prelude.{ℕ, ◌^◌, ◌<◌, List, [], ◌∷◌, ◌++◌}
use Rattle.flat_ir.specs.declared.design.Role.{Role}
use Rattle.flat_ir.specs.declared.design.Role.TheVariants as role
use Rattle.flat_ir.specs.declared.design.Signal.{Signal}

-- the name of a signal that shows a data input
abbrev pub input_name : Signal → Role → List (List ℕ)
input_name s role.Clock = []
input_name s (role.Input i) = s.name ∷ []
input_name s (role.Register r) = []

-- the names of the data inputs, in order of the signals: the k-th is that of input k where a design stands for a module
abbrev pub input_names : List Signal → List (List ℕ)
input_names [] = []
input_names (s ∷ ss) = input_name s s.role ++ input_names ss

-- as many numbers as widths, and each below 2 ^ its width
abbrev pub Fit : List ℕ → List ℕ → Type 0
Fit [] [] = Unit {0}
Fit (w ∷ ws) (x ∷ xs) = (x < 2 ^ w) × Fit ws xs
Fit _ _ = ⊥
