use Rattle.std.proofs.lemmas.Result.{err_from_is_err_and}
use Rattle.vl_declaration.proofs.NamedRules as rule
use Rattle.vl_declaration.proofs.named.read_value.Goals as goal

pub returns-in_err-value-in-Some-clause-reads : goal.returns-in_err-value-in-Some-clause-reads
returns-in_err-value-in-Some-clause-reads c =
    let p = err_from_is_err_and c.from_residual.result c.from_residual.ensures.1 in
    rw (p.1, p.2) ((rule.value_some c.args.depth c.requires.low _ _ _ c.in-Some.ensures.reads).fails c.in_err-value-in-Some.field-0.0 c.in_err-value-in-Some.ensures.reads)

pub returns-in_ok-value-in-Some-clause-reads : goal.returns-in_ok-value-in-Some-clause-reads
returns-in_ok-value-in-Some-clause-reads c =
    ((rule.value_some c.args.depth c.requires.low _ _ _ c.in-Some.ensures.reads).took _ _ c.in_ok-value-in-Some.ensures.reads)

pub returns-in-None-clause-reads : goal.returns-in-None-clause-reads
returns-in-None-clause-reads c =
    rule.value_none c.args.depth _ c.in-None.ensures.reads
