use Rattle.std.proofs.Common.{ap, map, ◌∙◌}
use Rattle.vl_tree.specs.SyntaxView as view
use Rattle.vl_joins.specs.Joins.{plain_join}
use Rattle.vl_scopes.specs.Plain.{plain_origin, plain_scopes}
use Rattle.vl_top_clocks.specs.Passing.{names_at}
use Rattle.vl_top_clocks.proofs.Counting.{if_ok}
use Rattle.vl_top_clocks.proofs.Joining.{of_instance}
use Rattle.vl_top_clocks.proofs.passed.passed_names.Goals as goal

pub returns-in_ok-all-in-Instance : goal.returns-in_ok-all-in-Instance
returns-in_ok-all-in-Instance c =
    let s = c.args.scope.now in let k = c.args.number in let m = c.args.path in let set = c.args.clocks.now in
    if_ok c.names_of.result
    (λ xs e cs h. of_instance (plain_scopes cs) k m s set (map plain_join c.in_ok-all-in-Instance.all.items) _
    (view.module_tree c.in-Instance.parent.now) (view.instance c.in-Instance.instance.now).binds
    (λ before. ap (plain_origin before s.within) c.in-Instance.is)
    c.in_ok-all-in-Instance.ensures
    (e cs h ∙ ap (λ js. names_at (plain_scopes cs) k m set (map plain_join js)) c.as_slice.ensures.value))
    c.names_of.ensures
