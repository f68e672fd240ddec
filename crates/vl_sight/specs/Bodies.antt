-- Bodies of functions, and what is in sight there. This project's own.
use Rattle.std.specs.Prelude.{◌≡◌, ℕ, slice_get, List, [], Option, Some, None, option_and_then}
use Rattle.std.specs.Option.{option_map}
use Rattle.vl_value.specs.Paths.{Text, Path, below}
use Rattle.vl_value.specs.Things.{Thing}
use Rattle.vl_design.specs.Declarations.{Local, Routine}
use Rattle.vl_design.specs.Scopes.{Scope}
use Rattle.vl_design.specs.Objects.{counted, first_named, either, local_thing, own_thing}
use Rattle.vl_design.specs.LoopVariables.{is_routine}
use Rattle.vl_declares.specs.Plain.{plain_routine}
use Rattle.vl_sight.specs.Firsts.{Finds, is_local}
use Rattle.vl_sight.specs.Named.{routine_in}
use Rattle.vl_sight.specs.declared.body.Body.{Body}

-- the function of a name of the scope of a number
abbrev pub routine_at : List Scope → ℕ → Text → Option Routine
routine_at ss k f = elim (slice_get ss k) [
  | Some s ↦ option_and_then routine_in (first_named is_routine f (counted s.level))
  | None ↦ None
]

abbrev pub locals_in : Option Routine → List Local
locals_in None = []
locals_in (Some r) = r.locals

abbrev pub routine_with : Body → Option Routine
routine_with b = option_map (λ r. plain_routine r.now) b.function

-- the body of a function, if there is one
pub record IsBody (r : Option Routine) (b : Body) : Type 0 where
  pub function : routine_with b ≡ r
  pub locals : Finds is_local (locals_in r) (locals_in r) b.locals

-- the function has this name, if there is one
abbrev pub own_in : Option Routine → Text → Type 0
own_in None f = Unit {0}
own_in (Some r) f = r.result.name.text ≡ f

-- what it has itself under a name, at the path of its scope
abbrev pub own_sight : Path → Option Routine → Text → Option Thing
own_sight p None x = None
own_sight p (Some r) x = either (local_thing (below p r.result.name.text) r.locals x) (own_thing p r x)
