use Rattle.std.proofs.Common.{◌++◌, sym, ◌∙◌}
use Rattle.vl_joins.specs.Joins.{plain_join}
use Rattle.vl_loop_paths.proofs.Added.{each_further}
use Rattle.vl_scopes.specs.Plain.{plain_scopes}
use Rattle.vl_top_clocks.specs.Passing.{name_at, name_if}
use Rattle.vl_top_clocks.proofs.passed.names_of.Goals as goal

pub loop-join-preserved : goal.loop-join-preserved
loop-join-preserved c cs h =
    let ss = plain_scopes cs in let k = c.args.number in let m = c.args.path in let set = c.args.clocks.now in
    let was = c.loop-join.invariant cs h in
    c.in_ok-push_if.ensures
    ∙ (λ i. was i ++ name_if (c.passes_up-passes.ensures cs h i) c.join-item.result.name.now)
    ∙ sym (each_further (name_at ss k m set) plain_join c.args.all.now c.loop-join.join-index c.join-item.result c.loop-join-test.true c.join-item.is)
