use Rattle.std.proofs.Common.{◌+◌}
use Rattle.std.specs.Prelude.{Some, None}
use Rattle.std.proofs.lemmas.Result.{err_from_is_err_and}
use Rattle.vl_tree.specs.declared.token.Mark.TheVariants as m
use Rattle.vl_tree.specs.Token as k
use Rattle.vl_read.proofs.TokenRules.{took_kind}
use Rattle.vl_tree.specs.Expressions.{expr_at}
use Rattle.vl_tree.specs.Depth.{expr_depths}
use Rattle.vl_read.proofs.Leads.{leads_on}
use Rattle.vl_expr.specs.Ends.{EndsExpr}
use Rattle.vl_expr.proofs.Common.{close_ends}
use Rattle.vl_simple.proofs.Steps.{fails_at, after_part}
use Rattle.vl_simple.proofs.SimpleRules as rule
use Rattle.vl_simple.proofs.Heads.{expr_close}
use Rattle.vl_simple.proofs.simple.read_stopped.Goals as goal

pub returns-in_default-clause-reads : goal.returns-in_default-clause-reads
returns-in_default-clause-reads c =
    let l0 = rule.stopped_parts c.args.depth c.args.at in
    l0.took None _ (rule.list_none expr_at (expr_depths (c.args.depth + 1)) EndsExpr close_ends c.args.depth c.args.at c.in_default.ensures.reads)

pub returns-in-Some-find_mark-clause-reads : goal.returns-in-Some-find_mark-clause-reads
returns-in-Some-find_mark-clause-reads c =
    let l0 = rule.stopped_parts c.args.depth c.args.at in
    l0.took (Some None) _
    (rule.list_empty expr_at (expr_depths (c.args.depth + 1)) EndsExpr close_ends c.args.depth c.requires.low _ c.args.at _ c.in-Some.ensures.reads expr_close _ _
    c.in-Some-find_mark.ensures.reads)

pub returns-in_err-argument-in-None-clause-reads : goal.returns-in_err-argument-in-None-clause-reads
returns-in_err-argument-in-None-clause-reads c =
    let l0 = rule.stopped_parts c.args.depth c.args.at in
    let l1 = leads_on (rule.list_given expr_at (expr_depths (c.args.depth + 1)) EndsExpr close_ends c.args.depth c.requires.low _ c.args.at _ c.in-Some.ensures.reads c.in-None.ensures.reads) l0 in
    let p = err_from_is_err_and c.from_residual.result c.from_residual.ensures.1 in
    rw (p.1, p.2) (fails_at (rule.given_close expr_at (expr_depths (c.args.depth + 1)) EndsExpr close_ends c.args.depth) l1
    c.in_err-argument-in-None.field-0.0 c.in_err-argument-in-None.ensures.reads)

pub returns-in_err-rest-in-None-clause-reads : goal.returns-in_err-rest-in-None-clause-reads
returns-in_err-rest-in-None-clause-reads c =
    let l0 = rule.stopped_parts c.args.depth c.args.at in
    let l1 = leads_on (rule.list_given expr_at (expr_depths (c.args.depth + 1)) EndsExpr close_ends c.args.depth c.requires.low _ c.args.at _ c.in-Some.ensures.reads c.in-None.ensures.reads) l0 in
    let l2 = after_part (rule.given_close expr_at (expr_depths (c.args.depth + 1)) EndsExpr close_ends c.args.depth) l1 _ _ c.in_ok-argument-in-None.ensures.reads in
    let p = err_from_is_err_and c.from_residual-in_err-rest-in-None.result c.from_residual-in_err-rest-in-None.ensures.1 in
    rw (p.1, p.2) (l2.fails c.in_err-rest-in-None.field-0.0 (c.in_err-rest-in-None.ensures.reads c.args.depth))

pub returns-in_ok-rest-in-None-clause-reads : goal.returns-in_ok-rest-in-None-clause-reads
returns-in_ok-rest-in-None-clause-reads c =
    let l0 = rule.stopped_parts c.args.depth c.args.at in
    let l1 = leads_on (rule.list_given expr_at (expr_depths (c.args.depth + 1)) EndsExpr close_ends c.args.depth c.requires.low _ c.args.at _ c.in-Some.ensures.reads c.in-None.ensures.reads) l0 in
    let l2 = after_part (rule.given_close expr_at (expr_depths (c.args.depth + 1)) EndsExpr close_ends c.args.depth) l1 _ _ c.in_ok-argument-in-None.ensures.reads in
    l2.took _ _ (took_kind (k.mark m.CloseParen) c.args.depth c.requires.low _ _ _ c.in_ok-rest-in-None.ensures.reads.1)
