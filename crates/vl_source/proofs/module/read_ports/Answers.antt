use Rattle.std.proofs.lemmas.Result.{err_from_is_err_and}
use Rattle.vl_source.proofs.ModuleRules as rule
use Rattle.vl_source.proofs.module.read_ports.Goals as goal

pub returns-in-None-clause-reads : goal.returns-in-None-clause-reads
returns-in-None-clause-reads c = rule.no_ports c.args.at c.in-None.ensures.reads

pub returns-in_err-ports-in-Some-clause-reads : goal.returns-in_err-ports-in-Some-clause-reads
returns-in_err-ports-in-Some-clause-reads c =
    let p = err_from_is_err_and c.from_residual.result c.from_residual.ensures.1 in
    rw (p.1, p.2) ((rule.some_ports _ c.args.at _ c.in-Some.ensures.reads).fails c.in_err-ports-in-Some.field-0.0
    c.in_err-ports-in-Some.ensures.reads)

pub returns-in_ok-ports-in-Some-clause-reads : goal.returns-in_ok-ports-in-Some-clause-reads
returns-in_ok-ports-in-Some-clause-reads c =
    (rule.some_ports _ c.args.at _ c.in-Some.ensures.reads).took _ _
    c.in_ok-ports-in-Some.ensures.reads
