use Rattle.std.proofs.Common.{arith, ◌≡◌, ◌∷◌, [], ◌++◌, ap, ◌∙◌, map, append-nil}
use Rattle.std.proofs.lemmas.Result.{err_from_is_err_and}
use Rattle.vl_read.proofs.CommaRules as rule
use Rattle.vl_read.proofs.commas.read_commas.Goals as goal

pub returns-in_err-first-clause-reads : goal.returns-in_err-first-clause-reads
returns-in_err-first-clause-reads g c =
    let p = err_from_is_err_and c.from_residual.result c.from_residual.ensures.1 in
    rw (p.1, p.2) (rule.list_fails g.R.Rule.at g.R.Rule.depths g.R.Rule.may g.R.Rule.laws c.args.depth c.args.cursor c.in_err-first.field-0.0 c.in_err-first.ensures.reads)

pub loop-all-init : goal.loop-all-init
loop-all-init g c =
    let k = rule.list_rest g.R.Rule.at g.R.Rule.depths g.R.Rule.may g.R.Rule.laws c.args.depth c.args.cursor _ _ c.in_ok-first.ensures.reads in
    let e : c.in_ok-all.all ≡ c.in_ok-first.first ∷ [] = c.in_ok-all.ensures in
    record {
      took = λ es rest p. rw e (k.took es rest p);
      fails = k.fails;
      shorter = c.in_ok-first.ensures.shorter;
    }

pub returns-in-None-clause-reads : goal.returns-in-None-clause-reads
returns-in-None-clause-reads g c =
    rw (← append-nil (map g.R.Rule.view c.loop-all.all))
    (c.loop-all.invariant.took [] _ (rule.more_none g.R.Rule.at g.R.Rule.depths g.R.Rule.may g.R.Rule.laws c.args.depth c.loop-all.rest c.in-None.ensures.reads))

pub returns-in_err-tree-in-Some-clause-reads : goal.returns-in_err-tree-in-Some-clause-reads
returns-in_err-tree-in-Some-clause-reads g c =
    let p = err_from_is_err_and c.from_residual-in_err-tree-in-Some.result c.from_residual-in_err-tree-in-Some.ensures.1 in
    rw (p.1, p.2) (c.loop-all.invariant.fails c.in_err-tree-in-Some.field-0.0
    (rule.more_fails g.R.Rule.at g.R.Rule.depths g.R.Rule.may g.R.Rule.laws c.args.depth _ c.in_ok-first.ensures.shallow c.loop-all.rest _ c.in-Some.ensures.reads
    c.in_err-tree-in-Some.field-0.0 c.in_err-tree-in-Some.ensures.reads))

pub loop-all-preserved : goal.loop-all-preserved
loop-all-preserved g c =
    let k = rule.more_next g.R.Rule.at g.R.Rule.depths g.R.Rule.may g.R.Rule.laws c.args.depth _ c.in_ok-first.ensures.shallow c.loop-all.rest _ c.in-Some.ensures.reads _ _
    c.in_ok-tree-in-Some.ensures.reads in
    let e : c.push.new.self ≡ c.loop-all.all ++ c.in_ok-tree-in-Some.tree ∷ [] = c.in_ok-push-in-Some.ensures.ok in
    record {
      took = λ es rest p. rw (e, rule.map_more) (c.loop-all.invariant.took (g.R.Rule.view c.in_ok-tree-in-Some.tree ∷ es) rest (k.took es rest p));
      fails = λ e r. c.loop-all.invariant.fails e (k.fails e r);
      shorter = omega (arith, c.in-Some.ensures.shorter, c.in_ok-tree-in-Some.ensures.shorter, c.loop-all.invariant.shorter);
    }
