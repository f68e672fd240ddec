-- The path of a scope: the names of the scopes in which it stands, from the top on, and its own. This project's own.
use Rattle.std.specs.Prelude.{ℕ, zero, suc, List, [], ◌∷◌, ◌++◌, map, Option, Some, None, codes}
use Rattle.netlist.specs.Design.{Flat}
use Rattle.design_names.specs.Shown.{scope_at}

-- what stands above a scope: the scopes down to its parent, if it has one
abbrev pub above : (ℕ → List ℕ) → Option ℕ → List ℕ
above down None = []
above down (Some p) = down p

-- the numbers of the scopes down to one, found in at most so many steps: a scope stands in a lower one
abbrev pub down_within : Flat → ℕ → ℕ → List ℕ
down_within f zero k = []
down_within f (suc steps) k = above (λ p. down_within f steps p) (scope_at f k).parent ++ k ∷ []

-- the scopes from the top down to the one of a number, each in the one before it
abbrev pub scopes_to : Flat → ℕ → List ℕ
scopes_to f k = down_within f (suc k) k

-- the path: their names
abbrev pub path : Flat → ℕ → List (List ℕ)
path f k = map (λ n. (scope_at f n).name) (scopes_to f k)

-- names with a point between each two
abbrev pub dotted_behind : List (List ℕ) → List ℕ
dotted_behind [] = []
dotted_behind (name ∷ more) = codes "." ++ (name ++ dotted_behind more)

abbrev pub dotted : List (List ℕ) → List ℕ
dotted [] = []
dotted (name ∷ more) = name ++ dotted_behind more

-- the path as a report writes it
abbrev pub path_text : Flat → ℕ → List ℕ
path_text f k = dotted (path f k)
