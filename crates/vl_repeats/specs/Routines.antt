-- Faults of a function's declarations. This project's own.
use Rattle.std.specs.Prelude.{Bool, if◌then◌else◌, List, [], ◌∷◌, ◌++◌}
use Rattle.vl_tree.specs.declared.fault.FaultKind.TheVariants.{Duplicate}
use Rattle.vl_tree.specs.Syntax.{Name}
use Rattle.vl_value.specs.Order.{Found, at}
use Rattle.vl_design.specs.Lists.{each_of}
use Rattle.vl_design.specs.Declarations.{Routine}
use Rattle.vl_design.specs.ObjectFaults.{same_locals, routine_locals, local_faults}

-- a name that is known
abbrev pub repeats_here : Bool → Name → List Found
repeats_here b x = if b then at x.place Duplicate ∷ [] else []

abbrev pub routine_faults : Routine → List Found
routine_faults r = same_locals [] (routine_locals r) ++ each_of local_faults (routine_locals r)
