use Rattle.std.specs.Option.{option_map}
use Rattle.vl_found.specs.View.{found}
use Rattle.vl_scope_faults.proofs.Scopes.{if_ok}
use Rattle.vl_scopes.specs.Plain.{plain_scopes}
use Rattle.vl_object_faults.proofs.Joined.{with_limits}
use Rattle.vl_object_faults.proofs.limits_fault.Goals as goal

pub returns : goal.returns
returns c =
    if_ok c.with_words.result
    (λ f e. with_limits (plain_scopes c.args.scopes.now) (option_map found c.in_ok-words.words) _ c.in_ok-words.ensures e)
    c.with_words.ensures
