use Rattle.vl_scopes.specs.Plain.{plain_scopes}
use Rattle.vl_object_faults.proofs.Joined.{of_all}
use Rattle.vl_object_faults.proofs.object_fault.Goals as goal

pub returns : goal.returns
returns c =
    of_all (plain_scopes c.args.scopes.now) _ _ _ c.in_ok-scopes_own.ensures c.in_ok-limits.ensures c.lesser.ensures
