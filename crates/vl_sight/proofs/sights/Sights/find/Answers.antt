use Rattle.std.proofs.Common.{sym, ap, ◌∙◌}
use Rattle.vl_design.specs.Objects.{sight}
use Rattle.vl_scopes.specs.Plain.{plain_scopes, levels_at}
use Rattle.vl_sight.proofs.Looking.{passed_over}
use Rattle.vl_sight.proofs.sights.Sights.find.Goals as goal

pub loop-next-preserved : goal.loop-next-preserved
loop-next-preserved c =
    let ss = plain_scopes c.args.scopes.now in let x = c.args.name.now in let at = c.in-Some.at in
    sym (passed_over ss at x c.outer_of-next.result c.outer_of-next.ensures.levels c.in-None.ensures)
    ∙ ap (λ k. sight (levels_at ss k) x) (sym c.in-Some.is) ∙ c.loop-next.invariant
