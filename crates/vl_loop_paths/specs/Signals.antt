-- Signals by a set of loop variables. This project's own.
use Rattle.std.specs.Prelude.{◌≡◌, ℕ, Bool, not, if◌then◌else◌, List, [], ◌∷◌, Option}
use Rattle.std.specs.Option.{option_map}
use Rattle.dt_core.specs.declared.limits.TheConstants.{MAX_SIGNALS}
use Rattle.vl_tree.specs.declared.fault.FaultKind.TheVariants.{TooManySignals}
use Rattle.vl_value.specs.Paths.{Path}
use Rattle.vl_value.specs.Order.{least}
use Rattle.vl_found.specs.declared.Found.{Found}
use Rattle.vl_found.specs.View.{found}
use Rattle.vl_design.specs.Lists.{each_of}
use Rattle.vl_design.specs.Scopes.{Scope}
use Rattle.vl_design.specs.Objects.{Object}
use Rattle.vl_design.specs.LoopVariables.{signals_of}
use Rattle.vl_design.specs.ObjectFaults.{beyond, places_of, told}
use Rattle.vl_paths.specs.declared.set.PathSet.{PathSet}
use Rattle.vl_paths.specs.Sets.{has}

-- a net or variable of a scope whose path has a number
abbrev pub is_signal : PathSet → ℕ → Object → Bool
is_signal loops m o = not (has loops m o.name.text)

abbrev pub kept_unless : Bool → Object → List Object
kept_unless is_loop o = if is_loop then [] else o ∷ []

-- the first signal of scopes with these loop variables with which there are too many
abbrev pub HasSignalsFault : List Scope → List Path → Option Found → Type 0
HasSignalsFault ss ps f =
    option_map found f ≡ least (told (beyond MAX_SIGNALS 0 (places_of (λ o. 1) (each_of (signals_of ps) ss))) TooManySignals)
