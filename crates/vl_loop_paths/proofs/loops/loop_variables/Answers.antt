use Rattle.std.proofs.Common.{sym, ap, subst, ◌∙◌}
use Rattle.vl_paths.specs.Sets.{HoldsPaths}
use Rattle.vl_paths.proofs.Holding.{none_held}
use Rattle.vl_design.specs.Lists.{each_of}
use Rattle.vl_scopes.specs.Plain.{plain_scopes, scopes_after}
use Rattle.std.proofs.lemmas.List.{drop_all}
use Rattle.vl_loop_paths.specs.Adding.{AddsOfScope}
use Rattle.vl_loop_paths.proofs.Passed.{looped, no_front, next_front, more_held}
use Rattle.vl_loop_paths.proofs.loops.loop_variables.Goals as goal

pub loop-k-init : goal.loop-k-init
loop-k-init c =
    (no_front c.args.scopes.now, λ are. none_held c.args.numbers.now c.new-loops.result (plain_scopes c.args.scopes.now) c.new-loops.ensures)

pub loop-k-preserved : goal.loop-k-preserved
loop-k-preserved c =
    let h = c.loop-k.invariant in let all = c.args.scopes.now in let k = c.loop-k.k in let one = c.index-scopes-k.result in
    let below = c.loop-k-test.true in (
      next_front all k one below c.index-scopes-k.is h.0,
      more_held c.args.numbers.now c.loop-k.loops c.add_scope.new.loops all k one below c.index-scopes-k.is h.0 h.1
          (subst (λ j. AddsOfScope c.args.numbers.now (plain_scopes all) j one c.loop-k.loops c.add_scope.new.loops) c.in-Ok.ensures.1 c.in_ok-add_scope.ensures),
    )

pub returns : goal.returns
returns c = λ are.
    let h = c.loop-k.invariant in let all = c.args.scopes.now in
    subst (λ ss. HoldsPaths c.args.numbers.now c.loop-k.loops (plain_scopes all) (each_of looped ss))
    (ap (scopes_after h.0.before) (sym (drop_all c.loop-k.k all c.loop-k-test.false)) ∙ h.0.rest) (h.1 are)
