use Rattle.std.proofs.lemmas.Result.{err_from_is_err_and}
use Rattle.vl_declaration.proofs.RangeRules as rule
use Rattle.vl_declaration.proofs.range.read_shape.Goals as goal

pub returns-in_err-range-clause-reads : goal.returns-in_err-range-clause-reads
returns-in_err-range-clause-reads c =
    let p = err_from_is_err_and c.from_residual.result c.from_residual.ensures.1 in
    rw (p.1, p.2) ((rule.shape_part c.args.depth c.requires.low _ _ _ c.skip_key-signed.ensures.reads).fails c.in_err-range.field-0.0 c.in_err-range.ensures.reads)

pub returns-clause-reads : goal.returns-clause-reads
returns-clause-reads c =
    ((rule.shape_part c.args.depth c.requires.low _ _ _ c.skip_key-signed.ensures.reads).took _ _ c.in_ok-range.ensures.reads)
