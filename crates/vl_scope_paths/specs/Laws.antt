-- Law of the paths of scopes. This project's own.
use Rattle.std.specs.Prelude.{◌≡◌, ℕ, List, slice_get, Option, Some, Ok, IsTrue}
use Rattle.vl_tree.specs.Syntax.{Source}
use Rattle.vl_value.specs.Paths.{Text, same_path}
use Rattle.vl_design.specs.Limits.{Limits}
use Rattle.vl_design.specs.Scopes.{Scope}
use Rattle.vl_design.specs.Design.{Design, elaborated}

-- no two scopes have one path
abbrev pub ScopesAreDistinct : List Scope → Type 0
ScopesAreDistinct ss = (i j : ℕ) (s r : Scope) → slice_get ss i ≡ Some s → slice_get ss j ≡ Some r
    → IsTrue (same_path s.level.path r.level.path) → i ≡ j

abbrev pub ScopesLaw : Type 0
ScopesLaw = (q : Limits) (src : Source) (top : Option Text) (d : Design) → elaborated q src top ≡ Ok d → ScopesAreDistinct d.scopes
