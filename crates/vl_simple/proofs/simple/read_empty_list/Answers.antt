use Rattle.std.proofs.lemmas.Result.{err_from_is_err_and}
use Rattle.vl_tree.specs.declared.token.Mark.TheVariants as m
use Rattle.vl_tree.specs.Token as k
use Rattle.vl_read.proofs.TokenRules.{took_kind}
use Rattle.vl_simple.proofs.TaskRules as rule
use Rattle.vl_simple.proofs.simple.read_empty_list.Goals as goal

pub returns-in-None-clause-reads : goal.returns-in-None-clause-reads
returns-in-None-clause-reads c =
    λ d low. rule.no_empty_list d c.args.at c.in-None.ensures.reads

pub returns-in_err-rest-in-Some-clause-reads : goal.returns-in_err-rest-in-Some-clause-reads
returns-in_err-rest-in-Some-clause-reads c =
    λ d low.
    let l = rule.empty_list_part d low _ c.args.at _ c.in-Some.ensures.reads in
    let p = err_from_is_err_and c.from_residual.result c.from_residual.ensures.1 in
    rw (p.1, p.2) (l.fails c.in_err-rest-in-Some.field-0.0 (c.in_err-rest-in-Some.ensures.reads d))

pub returns-in_ok-rest-in-Some-clause-reads : goal.returns-in_ok-rest-in-Some-clause-reads
returns-in_ok-rest-in-Some-clause-reads c =
    λ d low.
    let l = rule.empty_list_part d low _ c.args.at _ c.in-Some.ensures.reads in
    l.took _ _ (took_kind (k.mark m.CloseParen) d low _ _ _ c.in_ok-rest-in-Some.ensures.reads.1)
