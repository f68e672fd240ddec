-- Lists. This project's own.
use Rattle.std.specs.Prelude.{ℕ, Bool, List, [], ◌∷◌, ◌++◌, bytes_eq}
use Rattle.std.specs.List.{list_any}

-- what a function lists of each, one after another
abbrev pub each_of : {A : Type 0} → {B : Type 0} → (A → List B) → List A → List B
each_of f [] = []
each_of f (a ∷ more) = f a ++ each_of f more

-- whether a text stands among others
abbrev pub stands_in : List (List ℕ) → List ℕ → Bool
stands_in xs x = list_any (bytes_eq x) xs
