use Rattle.std.proofs.Common.{Some, sym, ap, ◌∙◌}
use Rattle.vl_tree.specs.SyntaxView as view
use Rattle.vl_value.specs.Order.{least}
use Rattle.vl_design.specs.Scopes.{instance_of}
use Rattle.vl_declares.specs.Plain.{all_plain}
use Rattle.vl_connections.specs.Connections.{scope_faults_of}
use Rattle.vl_scopes.specs.Plain.{plain_origin, levels_at}
use Rattle.vl_scope_faults.proofs.Scopes.{if_ok}
use Rattle.vl_scope_faults.proofs.scope_fault.Goals as goal

pub returns-in-Instance : goal.returns-in-Instance
returns-in-Instance c =
    let s = c.args.scope.now in
    if_ok c.instance_fault.result
    (λ f h before. h (levels_at before s.within)
    ∙ ap (λ ds. least (scope_faults_of (all_plain ds) (instance_of (view.module_tree c.in-Instance.parent.now)
    (Some (record { outer = levels_at before s.within; binds = (view.instance c.in-Instance.instance.now).binds })))))
    c.as_slice-declared.ensures.value
    ∙ ap (λ o. least (scope_faults_of (all_plain s.declared.items) (plain_origin before s.within o))) (sym c.in-Instance.is))
    c.instance_fault.ensures
