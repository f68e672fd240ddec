use Rattle.std.proofs.Common.{map, take, sym, ap, subst, ◌∙◌}
use Rattle.std.proofs.lemmas.List.{take_all}
use Rattle.vl_design.specs.Lists.{each_of}
use Rattle.vl_design.specs.LoopVariables.{looped_in}
use Rattle.vl_loops.specs.Loops.{plain_loops}
use Rattle.vl_scopes.specs.Plain.{plain_scopes}
use Rattle.vl_loop_paths.specs.Adding.{AddsPaths, looped_at}
use Rattle.vl_loop_paths.proofs.Added.{both_more, each_further, own_loops}
use Rattle.vl_loop_paths.proofs.loops.add_scope.Goals as goal

pub loop-one-preserved : goal.loop-one-preserved
loop-one-preserved c =
    let ss = plain_scopes c.args.scopes.now in let k = c.loop-one.one-index in let x = c.one-item.result in
    let look = looped_at ss c.args.from in let all = c.as_slice-one-items.result.now in
    both_more c.args.numbers.now ss (each_of look (map plain_loops (take k all))) (look (plain_loops x)) _
    c.args.loops.now c.loop-one.loops c.add_loops.new.loops c.loop-one.invariant c.in_ok-add_loops.ensures
    (each_further look plain_loops all k x c.loop-one-test.true c.one-item.is)

pub returns : goal.returns
returns c = λ s at is.
    let ss = plain_scopes c.args.scopes.now in let look = looped_at ss c.args.from in let all = c.as_slice-one-items.result.now in
    subst (λ ps. AddsPaths c.args.numbers.now ss ps c.args.loops.now c.loop-one.loops)
    (ap (λ ls. each_of look (map plain_loops ls)) (take_all c.loop-one.one-index all c.loop-one-test.false ∙ c.as_slice-one-items.ensures.value)
    ∙ own_loops ss c.args.from s at (map plain_loops c.in_ok-all.all.items) ∙ c.in_ok-all.ensures s
    ∙ ap (looped_in s) (c.items.ensures ∙ sym is)) c.loop-one.invariant
