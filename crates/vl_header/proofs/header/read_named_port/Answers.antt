use Rattle.std.proofs.lemmas.Result.{err_from_is_err_and}
use Rattle.vl_header.proofs.HeaderRules as rule
use Rattle.vl_header.proofs.header.read_named_port.Goals as goal

pub returns-in_err-name-clause-reads : goal.returns-in_err-name-clause-reads
returns-in_err-name-clause-reads c =
    let p = err_from_is_err_and c.from_residual.result c.from_residual.ensures.1 in
    rw (p.1, p.2) ((rule.port_alone c.args.depth _).fails c.in_err-name.field-0.0 c.in_err-name.ensures.reads)

pub returns-clause-reads : goal.returns-clause-reads
returns-clause-reads c =
    ((rule.port_alone c.args.depth _).took _ _ c.in_ok-name.ensures.reads)
