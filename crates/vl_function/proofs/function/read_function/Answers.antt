use Rattle.std.proofs.Common.{◌+◌}
use Rattle.std.proofs.lemmas.Result.{err_from_is_err_and}
use Rattle.vl_declaration.proofs.Parts.{first, next}
use Rattle.vl_function.proofs.FunctionRules as rule
use Rattle.vl_function.proofs.function.read_function.Goals as goal

pub returns-in_err-head-clause-reads : goal.returns-in_err-head-clause-reads
returns-in_err-head-clause-reads c =
    let p = err_from_is_err_and c.from_residual.result c.from_residual.ensures.1 in
    rw (p.1, p.2) (first (rule.heading c.args.depth) (rule.closed_part c.args.depth) (rule.function_j0 c.args.depth)
    (rule.function_part c.args.depth c.requires.low _ _) c.in_err-head.field-0.0 c.in_err-head.ensures.reads)

pub returns-in_err-body-clause-reads : goal.returns-in_err-body-clause-reads
returns-in_err-body-clause-reads c =
    let p = err_from_is_err_and c.from_residual-in_err-body.result c.from_residual-in_err-body.ensures.1 in
    rw (p.1, p.2) ((next (rule.heading c.args.depth) (rule.closed_part c.args.depth) (rule.function_j0 c.args.depth)
    (rule.function_part c.args.depth c.requires.low _ _) _ _ c.in_ok-head.ensures.reads).fails c.in_err-body.field-0.0 c.in_err-body.ensures.reads)

pub returns-clause-reads : goal.returns-clause-reads
returns-clause-reads c =
    rw c.function_of.ensures ((next (rule.heading c.args.depth) (rule.closed_part c.args.depth) (rule.function_j0 c.args.depth)
    (rule.function_part c.args.depth c.requires.low _ _) _ _ c.in_ok-head.ensures.reads).took _ _ c.in_ok-body.ensures.reads)
