-- Tables of words. This project's own.
use Rattle.std.specs.Prelude.{ℕ, if◌then◌else◌, List, [], ◌∷◌, map, Option, Some, None, bytes_eq}
use Rattle.std.specs.Borrow.{Bor}

-- what a table has under a word, in the first of its rows that has it
abbrev pub entry : {X : Type 0} → List (List ℕ × X) → List ℕ → Option X
entry [] word = None
entry (e ∷ es) word = if bytes_eq e.0 word then Some e.1 else entry es word

-- a table of the code as one of the definitions
abbrev pub pairs : {X : Type 0} → List (Bor (List ℕ) × X) → List (List ℕ × X)
pairs = map (λ e. (e.0.now, e.1))
