use Rattle.std.proofs.Common.{◌≡◌, List, drop}
use Rattle.std.specs.Option.{option_map}
use Rattle.vl_value.specs.Order.{least}
use Rattle.vl_found.specs.View.{found}
use Rattle.vl_design.specs.Lists.{each_of}
use Rattle.vl_design.specs.Scopes.{Scope}
use Rattle.vl_design.specs.ObjectFaults.{scope_faults}
use Rattle.vl_scopes.specs.Plain.{plain_scopes, scopes_after}
use Rattle.vl_scope_faults.proofs.scopes_fault.Given as goal

-- the scopes before, and their least fault
abbrev pub invariant-loop-scope : goal.invariant-loop-scope
invariant-loop-scope l = (before : List Scope)
    × (scopes_after before (drop l.scope-index l.scopes) ≡ plain_scopes l.scopes)
    × (option_map found l.fault ≡ least (each_of scope_faults before))
