-- Sets of paths, each by the number of the path before its last step, which is a name. This project's own.
use Rattle.std.specs.Prelude.{◌≡◌, ℕ, Bool, false, ◌&&◌, ◌||◌, bytes_eq, List, slice_get, Option, Some, None}
use Rattle.vl_names.specs.declared.NameSet.{NameSet}
use Rattle.vl_names.specs.Names as names
use Rattle.vl_value.specs.Paths.{Text, Path, below}
use Rattle.vl_design.specs.Scopes.{Scope}
use Rattle.vl_design.specs.LoopVariables.{is_path_in}
use Rattle.vl_scopes.specs.Plain.{path_at}
use Rattle.vl_paths.specs.declared.numbers.PathNumbers.{PathNumbers}
use Rattle.vl_paths.specs.declared.set.PathSet.{PathSet}
use Rattle.vl_paths.specs.Numbers.{number_of, is_one}

abbrev pub is_among : Option NameSet → Text → Bool
is_among (Some s) x = names.has s x
is_among None x = false

-- whether names below paths by number have the one of this number and name
abbrev pub has_in : List NameSet → ℕ → Text → Bool
has_in ns m x = is_among (slice_get ns m) x

abbrev pub has : PathSet → ℕ → Text → Bool
has s m x = has_in s.names.items m x

abbrev pub HasNone : PathSet → Type 0
HasNone s = (m : ℕ) (x : Text) → has s m x ≡ false

abbrev pub HaveSame : List NameSet → List NameSet → Type 0
HaveSame old new = (m : ℕ) (x : Text) → has_in new m x ≡ has_in old m x

-- the path of a name below the one of a number was added, if there is a number
abbrev pub AddsIn : Option ℕ → Text → List NameSet → List NameSet → Type 0
AddsIn r x old new = (m : ℕ) (y : Text) → has_in new m y ≡ ((is_one r m && bytes_eq x y) || has_in old m y)

abbrev pub Adds : Option ℕ → Text → PathSet → PathSet → Type 0
Adds r x old new = AddsIn r x old.names.items new.names.items

-- of all names below the paths of scopes the set has those whose paths are among these
abbrev pub HoldsPaths : PathNumbers → PathSet → List Scope → List Path → Type 0
HoldsPaths n set ss ps = (k : ℕ) (x : Text) → has set (number_of n k) x ≡ is_path_in ps (below (path_at ss (Some k)) x)
