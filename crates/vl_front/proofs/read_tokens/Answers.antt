use Rattle.std.proofs.lemmas.Result.{err_from_is_err_and}
use Rattle.vl_front.proofs.Steps.{clean_first, token_first}
use Rattle.vl_front.proofs.read_tokens.Goals as goal

pub returns-in_err-clean-clause-fault : goal.returns-in_err-clean-clause-fault
returns-in_err-clean-clause-fault c =
    let p = err_from_is_err_and c.from_residual.result c.from_residual.ensures.1 in
    rw (p.1, p.2) (clean_first c.args.text.now c.in_err-clean.field-0.0 c.in_err-clean.ensures.fault)

pub returns-in_err-lex-clause-fault : goal.returns-in_err-lex-clause-fault
returns-in_err-lex-clause-fault c =
    let p = err_from_is_err_and c.from_residual-in_err-lex.result c.from_residual-in_err-lex.ensures.1 in
    rw (p.1, p.2) (token_first c.args.text.now c.in_ok-clean.clean c.in_err-lex.field-0.0 c.in_ok-clean.ensures.clean c.in_err-lex.ensures.fault)
