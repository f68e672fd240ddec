-- The names of all scopes of a design. This project's own.
use Rattle.std.specs.Prelude.{◌≡◌, ℕ, Bool, false, ◌<◌, if◌then◌else◌, nat_lt, get_or, slice_get, length, List, [], ◌∷◌, Option, Some, None}
use Rattle.vl_value.specs.Paths.{Text}
use Rattle.vl_design.specs.Scopes.{Scope, Level}
use Rattle.vl_design.specs.Objects.{objects, object_at}
use Rattle.vl_design.specs.Clocks.{is_input}
use Rattle.vl_scopes.specs.declared.scope.Scope as code_scope
use Rattle.vl_sight.specs.declared.names.Names.{Names}
use Rattle.vl_sight.specs.declared.sights.Sights.{Sights}
use Rattle.vl_sight.specs.Named.{HasNames}

-- the names of each of some scopes
pub record HoldNames (cs : List code_scope.Scope) (ns : List Names) (count : ℕ) : Type 0 where
  pub count_is : length ns ≡ count
  pub each : (k : ℕ) (c : code_scope.Scope) (n : Names) → k < count → c ≡ get_or cs k c → n ≡ get_or ns k n → HasNames c n

abbrev pub HoldsSights : List code_scope.Scope → Sights → Type 0
HoldsSights cs s = HoldNames cs s.levels.items (length cs)

-- the level of the scope of a number alone
abbrev pub own_level : List Scope → ℕ → List Level
own_level ss k = elim (slice_get ss k) [ Some s ↦ s.level ∷ [] | None ↦ [] ]

abbrev pub lower_than : ℕ → Option ℕ → Option ℕ
lower_than n None = None
lower_than n (Some k) = if nat_lt k n then Some k else None

-- whether a name is that of an input of the scope of a number
abbrev pub is_input_at : List Scope → ℕ → Text → Bool
is_input_at ss k x = elim (slice_get ss k) [ Some s ↦ is_input (object_at (objects s.level) x) | None ↦ false ]
