use Rattle.std.proofs.Common.{ap, sym, subst, ◌∙◌}
use Rattle.vl_clocks.specs.Names.{texts}
use Rattle.vl_design.specs.Clocks.{clocked_in}
use Rattle.vl_design.specs.Objects.{sight}
use Rattle.vl_design.specs.Scopes.{levels}
use Rattle.vl_design.specs.LoopVariables.{paths_in}
use Rattle.vl_scopes.specs.Plain.{levels_at, plain_scopes}
use Rattle.vl_loop_paths.proofs.Added.{on_ok}
use Rattle.vl_loop_paths.specs.Adding.{AddsPaths}
use Rattle.vl_sight.specs.Levels.{lower_than}
use Rattle.std.specs.Prelude.{Some}
use Rattle.vl_top_clocks.specs.Passing.{IsPassedUp}
use Rattle.vl_top_clocks.proofs.Turning.{of_scope}
use Rattle.vl_top_clocks.proofs.clocks.add_scope.Goals as goal

pub returns : goal.returns
returns c =
    let ss = plain_scopes c.args.scopes.now in let k = c.args.from in let s = c.args.scope.now in let n = c.args.numbers.now in
    let own = c.add_names.new.loops in let passed = texts c.in_ok-passed.passed.items in
    on_ok c.add_outer.result
    (λ adds. of_scope n ss k s c.args.clocks.now own c.add_outer.new.clocks (texts c.in_ok-names.names.items) passed
    (subst (λ xs. AddsPaths n ss (paths_in (sight (levels_at ss (Some k))) (texts xs)) c.args.clocks.now own) c.as_slice.ensures.value c.in_ok-add_names.ensures)
    (λ x e. c.in_ok-names.ensures (sight (levels x)) ∙ ap (clocked_in (sight (levels x))) (c.items.ensures ∙ sym e))
    (subst (λ m. IsPassedUp ss k m s own passed) c.number.ensures (c.in_ok-passed.ensures c.args.scopes.now c.requires))
    (subst (λ xs. AddsPaths n ss (paths_in (sight (levels_at ss (lower_than k s.within))) (texts xs)) own c.add_outer.new.clocks) c.as_slice-2.ensures.value
    (subst (λ w. AddsPaths n ss (paths_in (sight (levels_at ss w)) (texts c.as_slice-2.result.now)) own c.add_outer.new.clocks) c.lower-outer.ensures.number adds)))
    c.add_outer.ensures
