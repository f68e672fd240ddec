use Rattle.std.proofs.Common.{◌+◌}
use Rattle.std.proofs.lemmas.Result.{err_from_is_err_and}
use Rattle.vl_tree.specs.declared.token.Mark.TheVariants as m
use Rattle.vl_tree.specs.Token as k
use Rattle.vl_declaration.proofs.Parts.{first, next, passes, valued_by}
use Rattle.vl_header.proofs.BindRules as rule
use Rattle.vl_read.proofs.Pieces.{took_nothing}
use Rattle.vl_read.specs.Reading.{Any}
use Rattle.vl_header.proofs.binds.read_closed.Goals as goal

pub returns-in-Some-clause-reads : goal.returns-in-Some-clause-reads
returns-in-Some-clause-reads c =
    (rule.shut_part c.args.depth c.requires.low _ _ _ c.in-Some.ensures.reads).took tt _ (took_nothing Any Any _)

pub returns-in_err-value-in-None-clause-reads : goal.returns-in_err-value-in-None-clause-reads
returns-in_err-value-in-None-clause-reads c =
    let p = err_from_is_err_and c.from_residual.result c.from_residual.ensures.1 in
    rw (p.1, p.2) (first (valued_by (c.args.depth + 1)) (rule.closed_1 c.args.depth) (rule.closed_j0 c.args.depth) (rule.closed_part c.args.depth _ c.in-None.ensures.reads) c.in_err-value-in-None.field-0.0 c.in_err-value-in-None.ensures.reads)

pub returns-in_err-rest-in-None-clause-reads : goal.returns-in_err-rest-in-None-clause-reads
returns-in_err-rest-in-None-clause-reads c =
    let p = err_from_is_err_and c.from_residual-in_err-rest-in-None.result c.from_residual-in_err-rest-in-None.ensures.1 in
    rw (p.1, p.2) ((next (valued_by (c.args.depth + 1)) (rule.closed_1 c.args.depth) (rule.closed_j0 c.args.depth) (rule.closed_part c.args.depth _ c.in-None.ensures.reads) _ _ c.in_ok-value-in-None.ensures.reads).fails c.in_err-rest-in-None.field-0.0 (c.in_err-rest-in-None.ensures.reads (c.args.depth)))

pub returns-in_ok-rest-in-None-clause-reads : goal.returns-in_ok-rest-in-None-clause-reads
returns-in_ok-rest-in-None-clause-reads c =
    ((next (valued_by (c.args.depth + 1)) (rule.closed_1 c.args.depth) (rule.closed_j0 c.args.depth) (rule.closed_part c.args.depth _ c.in-None.ensures.reads) _ _ c.in_ok-value-in-None.ensures.reads).took _ _ (passes (c.args.depth) (k.mark m.CloseParen) (c.requires.low) _ _ c.in_ok-rest-in-None.ensures.reads))
