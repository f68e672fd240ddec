-- The faults of one scope, whatever stands before it. This project's own.
use Rattle.std.specs.Prelude.{◌≡◌, List, Option}
use Rattle.std.specs.Option.{option_map}
use Rattle.vl_value.specs.Order.{least}
use Rattle.vl_found.specs.declared.Found.{Found}
use Rattle.vl_found.specs.View.{found}
use Rattle.vl_design.specs.Scopes.{Scope}
use Rattle.vl_design.specs.ObjectFaults.{scope_faults}
use Rattle.vl_scopes.specs.Plain.{plain_scope}
use Rattle.vl_scopes.specs.declared.scope.Scope as code

abbrev pub HasScopeFault : code.Scope → Option Found → Type 0
HasScopeFault s f = (before : List Scope) → option_map found f ≡ least (scope_faults (plain_scope before s))
