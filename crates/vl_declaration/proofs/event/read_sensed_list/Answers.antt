use Rattle.std.proofs.Common.{arith, ◌≡◌, ◌∷◌, [], ◌++◌, ap, ◌∙◌, map, append-nil}
use Rattle.std.proofs.lemmas.Result.{err_from_is_err_and}
use Rattle.vl_tree.specs.SyntaxView as view
use Rattle.vl_declaration.proofs.Parts.{first, next}
use Rattle.vl_declaration.proofs.EventRules as rule
use Rattle.vl_read.proofs.CommaRules as list
use Rattle.vl_declaration.proofs.event.read_sensed_list.Goals as goal

pub returns-in_err-first-clause-reads : goal.returns-in_err-first-clause-reads
returns-in_err-first-clause-reads c =
    let p = err_from_is_err_and c.from_residual.result c.from_residual.ensures.1 in
    rw (p.1, p.2) (first (rule.sensed_part c.args.depth) (rule.more_part c.args.depth) (rule.list_join c.args.depth) (rule.list_whole c.args.depth _) c.in_err-first.field-0.0 c.in_err-first.ensures.reads)

pub loop-all-init : goal.loop-all-init
loop-all-init c =
    let k = next (rule.sensed_part c.args.depth) (rule.more_part c.args.depth) (rule.list_join c.args.depth) (rule.list_whole c.args.depth _) _ _ c.in_ok-first.ensures.reads in
    let e : c.push.new.self ≡ c.in_ok-first.first ∷ [] = c.in_ok-push.ensures.ok ∙ ap (λ w. w ++ c.in_ok-first.first ∷ []) c.new-all.ensures in
    record {
      took = λ es rest p. rw e (k.took es rest p);
      fails = k.fails;
      shorter = c.in_ok-first.ensures.shorter;
    }

pub returns-in-None-clause-reads : goal.returns-in-None-clause-reads
returns-in-None-clause-reads c =
    rw (← append-nil (map view.sensed c.loop-all.all))
    (c.loop-all.invariant.took [] _ (rule.more_none c.args.depth c.loop-all.rest c.in-None.ensures.reads))

pub returns-in_err-sensed-in-Some-clause-reads : goal.returns-in_err-sensed-in-Some-clause-reads
returns-in_err-sensed-in-Some-clause-reads c =
    let p = err_from_is_err_and c.from_residual-in_err-sensed-in-Some.result c.from_residual-in_err-sensed-in-Some.ensures.1 in
    rw (p.1, p.2) (c.loop-all.invariant.fails c.in_err-sensed-in-Some.field-0.0 (first (rule.sensed_part c.args.depth) (rule.more_part c.args.depth) (rule.list_join c.args.depth) (rule.separated c.args.depth c.in_ok-first.ensures.shallow c.loop-all.rest _ c.in-Some.ensures.reads) c.in_err-sensed-in-Some.field-0.0 c.in_err-sensed-in-Some.ensures.reads))

pub loop-all-preserved : goal.loop-all-preserved
loop-all-preserved c =
    let k = next (rule.sensed_part c.args.depth) (rule.more_part c.args.depth) (rule.list_join c.args.depth) (rule.separated c.args.depth c.in_ok-first.ensures.shallow c.loop-all.rest _ c.in-Some.ensures.reads) _ _ c.in_ok-sensed-in-Some.ensures.reads in
    let e : c.push-in-Some.new.self ≡ c.loop-all.all ++ c.in_ok-sensed-in-Some.sensed ∷ [] = c.in_ok-push-in-Some.ensures.ok in
    record {
      took = λ es rest p. rw (e, list.map_more) (c.loop-all.invariant.took (view.sensed c.in_ok-sensed-in-Some.sensed ∷ es) rest (k.took es rest p));
      fails = λ e r. c.loop-all.invariant.fails e (k.fails e r);
      shorter = omega (arith, c.in-Some.ensures.shorter, c.in_ok-sensed-in-Some.ensures.shorter, c.loop-all.invariant.shorter);
    }
