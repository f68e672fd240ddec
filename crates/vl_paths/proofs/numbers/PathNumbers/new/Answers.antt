use Rattle.std.proofs.Common.{[], ◌∷◌, ◌++◌, refl, sym, ap, subst, ◌∙◌}
use Rattle.std.proofs.lemmas.List.{drop_all}
use Rattle.vl_scopes.specs.Plain.{plain_scope, scopes_after}
use Rattle.vl_paths.specs.Numbers.{AreNumbers}
use Rattle.vl_paths.proofs.Pushed.{scopes-drop}
use Rattle.vl_paths.proofs.numbers.PathNumbers.new.Goals as goal

pub loop-scope-init : goal.loop-scope-init
loop-scope-init c = ([], refl, c.in_ok-numbers.ensures)

pub loop-scope-preserved : goal.loop-scope-preserved
loop-scope-preserved c =
    let h = c.loop-scope.invariant in let s = c.scope-item.result in let one = plain_scope h.0 s in (
      h.0 ++ one ∷ [],
      sym (scopes-drop h.0 c.args.scopes.now c.loop-scope.scope-index s c.loop-scope-test.true c.scope-item.is) ∙ h.1,
      c.in_ok-push.ensures h.0 h.2,
    )

pub returns : goal.returns
returns c =
    let h = c.loop-scope.invariant in
    subst (AreNumbers c.loop-scope.numbers)
    (ap (scopes_after h.0) (sym (drop_all c.loop-scope.scope-index c.args.scopes.now c.loop-scope-test.false)) ∙ h.1) h.2
