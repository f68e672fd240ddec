-- Data inputs by sets of loop variables and of clock names, and their faults. This project's own.
use Rattle.std.specs.Prelude.{ℕ, Bool, ◌&&◌, not, if◌then◌else◌, List, [], ◌∷◌, ◌++◌, Some}
use Rattle.dt_core.specs.declared.limits.TheConstants.{MAX_INPUTS, MAX_INPUT_BITS}
use Rattle.vl_tree.specs.declared.fault.FaultKind.TheVariants.{TooManyInputs}
use Rattle.vl_value.specs.Things.{width_of}
use Rattle.vl_value.specs.Order.{Found}
use Rattle.vl_design.specs.Scopes.{Scope}
use Rattle.vl_design.specs.Objects.{Object}
use Rattle.vl_design.specs.LoopVariables.{loop_variables}
use Rattle.vl_design.specs.Clocks.{clocks_at_top, is_input}
use Rattle.vl_design.specs.ObjectFaults.{beyond, places_of, told}
use Rattle.vl_paths.specs.declared.numbers.PathNumbers.{PathNumbers}
use Rattle.vl_paths.specs.declared.set.PathSet.{PathSet}
use Rattle.vl_paths.specs.Sets.{has, HoldsPaths}

-- sets of the loop variables and of the clock names of a design
pub record AreKept (n : PathNumbers) (loops clocks : PathSet) (ss : List Scope) : Type 0 where
  pub loops_are : HoldsPaths n loops ss (loop_variables ss)
  pub clocks_are : HoldsPaths n clocks ss (clocks_at_top ss)

-- an input of a scope whose path has a number
abbrev pub is_data : PathSet → ℕ → Object → Bool
is_data clocks m o = is_input (Some o) && not (has clocks m o.name.text)

abbrev pub kept_if : Bool → Object → List Object
kept_if b o = if b then o ∷ [] else []

-- the faults of data inputs
abbrev pub input_faults : List Object → List Found
input_faults os = told (beyond MAX_INPUTS 0 (places_of (λ o. 1) os)) TooManyInputs
    ++ told (beyond MAX_INPUT_BITS 0 (places_of (λ (o : Object). width_of o.shape) os)) TooManyInputs
