-- Numbers of the paths of scopes, and of the bodies of their functions. This project's own.
use Rattle.std.specs.Prelude.{◌≡◌, ℕ, ◌==◌, Bool, false, List, [], ◌∷◌, ◌++◌, length, get_or, slice_get, Option, Some, None}
use Rattle.vl_value.specs.Paths.{Text, Path, same_path, below}
use Rattle.vl_design.specs.Scopes.{Scope}
use Rattle.vl_scopes.specs.Plain.{plain_scope, path_at}
use Rattle.vl_scopes.specs.declared.scope.Scope as code
use Rattle.vl_paths.specs.declared.numbers.PathNumbers.{PathNumbers}
use Rattle.vl_paths.specs.Keys.{AreKeysOf, IsNumberOf}

-- the number of the path of a scope, the top's where there is no such scope
abbrev pub number_of : PathNumbers → ℕ → ℕ
number_of n k = get_or n.of_scopes.items k 0

-- that of the path of the scope in which another one stands
abbrev pub number_within : List ℕ → Option ℕ → ℕ
number_within ms None = 0
number_within ms (Some k) = get_or ms k 0

-- the scopes of these numbers
pub record AreNumbers (n : PathNumbers) (ss : List Scope) : Type 0 where
  pub paths : List Path
  pub table : AreKeysOf n.keys.keys paths
  pub count : length n.of_scopes.items ≡ length ss
  pub each : (k : ℕ) (s : Scope) → slice_get ss k ≡ Some s → IsNumberOf paths s.level.path (number_of n k)

-- a scope more has a number
abbrev pub Numbers : code.Scope → PathNumbers → PathNumbers → Type 0
Numbers s old new = (before : List Scope) → AreNumbers old before → AreNumbers new (before ++ plain_scope before s ∷ [])

abbrev pub is_one : Option ℕ → ℕ → Bool
is_one (Some a) b = a == b
is_one None b = false

-- exactly the scopes of a path have its number
abbrev pub StandsFor : PathNumbers → List Scope → Option ℕ → Path → Type 0
StandsFor n ss r p = (k : ℕ) → is_one r (number_of n k) ≡ same_path p (path_at ss (Some k))

-- the number of the path of a function of a scope
abbrev pub IsInside : PathNumbers → ℕ → Text → Option ℕ → Type 0
IsInside n k f r = (ss : List Scope) → AreNumbers n ss → StandsFor n ss r (below (path_at ss (Some k)) f)
