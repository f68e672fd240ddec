use Rattle.std.proofs.Common.{[], ◌∷◌, ◌++◌, refl, sym, ap, ◌∙◌}
use Rattle.std.proofs.lemmas.List.{drop_all}
use Rattle.vl_value.specs.Order.{least}
use Rattle.vl_design.specs.Lists.{each_of}
use Rattle.vl_design.specs.ObjectFaults.{scope_faults}
use Rattle.vl_scopes.specs.Plain.{plain_scope, scopes_after}
use Rattle.vl_scope_faults.proofs.Scopes.{scopes-drop, least_more}
use Rattle.vl_scope_faults.proofs.scopes_fault.Goals as goal

pub loop-scope-init : goal.loop-scope-init
loop-scope-init c = ([], refl, refl)

pub loop-scope-preserved : goal.loop-scope-preserved
loop-scope-preserved c =
    let h = c.loop-scope.invariant in let s = c.scope-item.result in let one = plain_scope h.0 s in (
      h.0 ++ one ∷ [],
      sym (scopes-drop h.0 c.args.scopes.now c.loop-scope.scope-index s c.loop-scope-test.true c.scope-item.is) ∙ h.1,
      least_more scope_faults h.0 one _ _ _ h.2 (c.in_ok-found.ensures h.0) c.lesser-fault.ensures,
    )

pub returns : goal.returns
returns c =
    let h = c.loop-scope.invariant in
    h.2 ∙ ap (λ ss. least (each_of scope_faults ss))
    (ap (scopes_after h.0) (sym (drop_all c.loop-scope.scope-index c.args.scopes.now c.loop-scope-test.false)) ∙ h.1)
