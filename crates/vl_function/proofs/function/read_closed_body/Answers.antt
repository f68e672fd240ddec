use Rattle.std.proofs.Common.{◌+◌}
use Rattle.std.proofs.lemmas.Result.{err_from_is_err_and}
use Rattle.vl_tree.specs.declared.token.Mark.TheVariants as m
use Rattle.vl_tree.specs.declared.token.Key.TheVariants as w
use Rattle.vl_tree.specs.Token as k
use Rattle.vl_declaration.proofs.Parts.{first, next, passed, passes}
use Rattle.vl_function.proofs.FunctionRules as rule
use Rattle.vl_function.proofs.function.read_closed_body.Goals as goal

pub returns-in_err-inner-clause-reads : goal.returns-in_err-inner-clause-reads
returns-in_err-inner-clause-reads c =
    let p = err_from_is_err_and c.from_residual.result c.from_residual.ensures.1 in
    rw (p.1, p.2) (first (passed c.args.depth (k.mark m.Semicolon)) (rule.function_2 c.args.depth) (rule.function_j1 c.args.depth)
    (rule.closed_whole c.args.depth c.args.at) c.in_err-inner.field-0.0 (c.in_err-inner.ensures.reads c.args.depth))

pub returns-in_err-body-clause-reads : goal.returns-in_err-body-clause-reads
returns-in_err-body-clause-reads c =
    let p = err_from_is_err_and c.from_residual-in_err-body.result c.from_residual-in_err-body.ensures.1 in
    rw (p.1, p.2) (first (rule.body_part (c.args.depth + 1)) (rule.function_3 c.args.depth) (rule.function_j2 c.args.depth)
    (next (passed c.args.depth (k.mark m.Semicolon)) (rule.function_2 c.args.depth) (rule.function_j1 c.args.depth)
    (rule.closed_whole c.args.depth c.args.at) _ _ (passes c.args.depth (k.mark m.Semicolon) c.requires.low _ _ c.in_ok-inner.ensures.reads))
    c.in_err-body.field-0.0 c.in_err-body.ensures.reads)

pub returns-in_err-rest-clause-reads : goal.returns-in_err-rest-clause-reads
returns-in_err-rest-clause-reads c =
    let p = err_from_is_err_and c.from_residual-in_err-rest.result c.from_residual-in_err-rest.ensures.1 in
    rw (p.1, p.2) ((next (rule.body_part (c.args.depth + 1)) (rule.function_3 c.args.depth) (rule.function_j2 c.args.depth)
    (next (passed c.args.depth (k.mark m.Semicolon)) (rule.function_2 c.args.depth) (rule.function_j1 c.args.depth)
    (rule.closed_whole c.args.depth c.args.at) _ _ (passes c.args.depth (k.mark m.Semicolon) c.requires.low _ _ c.in_ok-inner.ensures.reads))
    _ _ c.in_ok-body.ensures.reads).fails c.in_err-rest.field-0.0 (c.in_err-rest.ensures.reads c.args.depth))

pub returns-clause-reads : goal.returns-clause-reads
returns-clause-reads c =
    (next (rule.body_part (c.args.depth + 1)) (rule.function_3 c.args.depth) (rule.function_j2 c.args.depth)
    (next (passed c.args.depth (k.mark m.Semicolon)) (rule.function_2 c.args.depth) (rule.function_j1 c.args.depth)
    (rule.closed_whole c.args.depth c.args.at) _ _ (passes c.args.depth (k.mark m.Semicolon) c.requires.low _ _ c.in_ok-inner.ensures.reads))
    _ _ c.in_ok-body.ensures.reads).took _ _ (passes c.args.depth (k.key w.Endfunction) c.requires.low _ _ c.in_ok-rest.ensures.reads)
