use Rattle.std.proofs.lemmas.Result.{err_from_is_err_and}
use Rattle.vl_tree.specs.declared.token.Mark.TheVariants as m
use Rattle.vl_tree.specs.Token as k
use Rattle.vl_read.proofs.TokenRules.{took_kind}
use Rattle.vl_simple.proofs.Steps.{fails_at, after_part}
use Rattle.vl_simple.proofs.PartRules as rule
use Rattle.vl_simple.proofs.parts.read_grouped.Goals as goal

pub returns-in_err-rest-clause-reads : goal.returns-in_err-rest-clause-reads
returns-in_err-rest-clause-reads c =
    let l0 = rule.grouped_parts c.args.depth c.args.at in
    let p = err_from_is_err_and c.from_residual.result c.from_residual.ensures.1 in
    rw (p.1, p.2) (fails_at (rule.open_first c.args.depth) l0 c.in_err-rest.field-0.0 (c.in_err-rest.ensures.reads c.args.depth))

pub returns-in_err-expr-clause-reads : goal.returns-in_err-expr-clause-reads
returns-in_err-expr-clause-reads c =
    let l0 = rule.grouped_parts c.args.depth c.args.at in
    let l1 = after_part (rule.open_first c.args.depth) l0 _ _ (took_kind (k.mark m.OpenParen) c.args.depth c.requires.low _ _ _ c.in_ok-rest.ensures.reads.1) in
    let p = err_from_is_err_and c.from_residual-in_err-expr.result c.from_residual-in_err-expr.ensures.1 in
    rw (p.1, p.2) (fails_at (rule.expr_close c.args.depth) l1 c.in_err-expr.field-0.0 c.in_err-expr.ensures.reads)

pub returns-in_err-rest-2-clause-reads : goal.returns-in_err-rest-2-clause-reads
returns-in_err-rest-2-clause-reads c =
    let l0 = rule.grouped_parts c.args.depth c.args.at in
    let l1 = after_part (rule.open_first c.args.depth) l0 _ _ (took_kind (k.mark m.OpenParen) c.args.depth c.requires.low _ _ _ c.in_ok-rest.ensures.reads.1) in
    let l2 = after_part (rule.expr_close c.args.depth) l1 _ _ c.in_ok-expr.ensures.reads in
    let p = err_from_is_err_and c.from_residual-in_err-rest-2.result c.from_residual-in_err-rest-2.ensures.1 in
    rw (p.1, p.2) (l2.fails c.in_err-rest-2.field-0.0 (c.in_err-rest-2.ensures.reads c.args.depth))

pub returns-clause-reads : goal.returns-clause-reads
returns-clause-reads c =
    let l0 = rule.grouped_parts c.args.depth c.args.at in
    let l1 = after_part (rule.open_first c.args.depth) l0 _ _ (took_kind (k.mark m.OpenParen) c.args.depth c.requires.low _ _ _ c.in_ok-rest.ensures.reads.1) in
    let l2 = after_part (rule.expr_close c.args.depth) l1 _ _ c.in_ok-expr.ensures.reads in
    l2.took _ _ (took_kind (k.mark m.CloseParen) c.args.depth c.requires.low _ _ _ c.in_ok-rest-2.ensures.reads.1)
