-- Paths that are added to a set, and the loops of a scope by its number. This project's own.
use Rattle.std.specs.Prelude.{◌≡◌, ℕ, List, ◌++◌, slice_get, Option, Some, None}
use Rattle.vl_value.specs.Paths.{Text, Path}
use Rattle.vl_value.specs.Constant.{Sight}
use Rattle.vl_design.specs.Scopes.{Scope}
use Rattle.vl_design.specs.Objects.{sight}
use Rattle.vl_design.specs.LoopVariables.{paths_in, looped_in}
use Rattle.vl_scopes.specs.Plain.{levels_at, made_of}
use Rattle.vl_scopes.specs.declared.scope.Scope as code
use Rattle.vl_loops.specs.Loops.{Loops}
use Rattle.vl_paths.specs.declared.numbers.PathNumbers.{PathNumbers}
use Rattle.vl_paths.specs.declared.set.PathSet.{PathSet}
use Rattle.vl_paths.specs.Numbers.{AreNumbers}
use Rattle.vl_paths.specs.Sets.{HoldsPaths}
use Rattle.vl_sight.specs.Seen.{sight_inside}

-- a set has these paths more
abbrev pub AddsPaths : PathNumbers → List Scope → List Path → PathSet → PathSet → Type 0
AddsPaths n ss qs old new = (ps : List Path) → AreNumbers n ss → HoldsPaths n old ss ps → HoldsPaths n new ss (ps ++ qs)

-- what is in sight in the bodies of the scope of a number
abbrev pub sight_of : List Scope → ℕ → Option Text → Sight
sight_of ss k None = sight (levels_at ss (Some k))
sight_of ss k (Some f) = sight_inside ss k f

-- what the names of loops stand for there
abbrev pub looped_at : List Scope → ℕ → Loops → List Path
looped_at ss k l = paths_in (sight_of ss k l.inside) l.names

-- the loop variables of the scope of a number were added
abbrev pub AddsOfScope : PathNumbers → List Scope → ℕ → code.Scope → PathSet → PathSet → Type 0
AddsOfScope n ss k c old new = (s : Scope) → slice_get ss k ≡ Some s → s.items ≡ made_of c.origin
    → AddsPaths n ss (looped_in s s.items) old new
