-- What requests do to the counts, the fault and the scopes of the program. This project's own.
use Rattle.std.specs.Prelude.{◌≡◌, ℕ, Bool, true, List, [], ◌∷◌, Option, Some, None, slice_get}
use Rattle.vl_tree.specs.SyntaxView as view
use Rattle.dt_core.specs.declared.place.Place.{Place}
use Rattle.vl_design.specs.Limits.{limits}
use Rattle.vl_design.specs.Parameters.{Given}
use Rattle.vl_design.specs.Scopes.{Scope, Here, Request, opens}
use Rattle.vl_design.specs.Walk.{Built, nothing_built, all_heard}
use Rattle.vl_build.specs.Heard.{Hears, Tells}
use Rattle.vl_scopes.specs.declared.scope.Scope as code
use Rattle.vl_scopes.specs.Plain.{plain_scope, plain_scopes, path_at, levels_at}
use Rattle.vl_opening.specs.declared.walk.Walk.{Walk}

-- the scopes so far
abbrev pub scopes_of : Walk → List Scope
scopes_of w = plain_scopes w.scopes.items

-- scopes that are there stay where they are
abbrev pub Keeps : List Scope → List Scope → Type 0
Keeps old new = (k : ℕ) (s : Scope) → slice_get old k ≡ Some s → slice_get new k ≡ Some s

-- requests are heard, and the scopes for which they ask are there
pub record Walks (rs : List Request) (old new : Walk) : Type 0 where
  pub hears : Hears old.progress new.progress rs
  pub scopes : (b : Built) → Tells old.progress b → b.scopes ≡ scopes_of old
      → (all_heard limits (view.place old.progress.top) rs b).scopes ≡ scopes_of new
  pub kept : Keeps (scopes_of old) (scopes_of new)

-- a walk of which nothing was heard, of a top whose name stands there
pub record IsFresh (top : Place) (w : Walk) : Type 0 where
  pub top_is : w.progress.top ≡ top
  pub tells : Tells w.progress nothing_built
  pub scopes : w.scopes.items ≡ []

-- ---- where an item stands

-- in the scope of a number, which is there
abbrev pub IsOpen : Walk → ℕ → Type 0
IsOpen w k = (s : Scope) × (slice_get (scopes_of w) k ≡ Some s)

-- where an item of the scope of a number stands
abbrev pub here_in : List Scope → ℕ → List Given → Bool → Here
here_in ss k gs b = record { given = gs; path = path_at ss (Some k); levels = levels_at ss (Some k); in_block = b }

-- a scope has a number, or the walk has ended
abbrev pub IsNumbered : Walk → Scope → Option ℕ → Type 0
IsNumbered w s None = w.progress.ended ≡ true
IsNumbered w s (Some k) = slice_get (scopes_of w) k ≡ Some s

pub record Opens (c : code.Scope) (old new : Walk) (n : Option ℕ) : Type 0 where
  pub walks : Walks (opens (plain_scope (scopes_of old) c) ∷ []) old new
  pub number : IsNumbered new (plain_scope (scopes_of old) c) n
