use Rattle.std.proofs.lemmas.Result.{err_from_is_err_and}
use Rattle.vl_declaration.proofs.Parts.{first, next}
use Rattle.vl_header.proofs.HeaderRules as rule
use Rattle.vl_header.proofs.header.read_port.Goals as goal

pub returns-in_err-directed-in-Some-clause-reads : goal.returns-in_err-directed-in-Some-clause-reads
returns-in_err-directed-in-Some-clause-reads c =
    let p = err_from_is_err_and c.from_residual.result c.from_residual.ensures.1 in
    rw (p.1, p.2) (first (rule.direction_part c.args.depth) (rule.port_1 c.args.depth) (rule.port_j0 c.args.depth) (rule.port_declared c.args.depth _ _ _ _ c.in-Some.ensures.reads) c.in_err-directed-in-Some.field-0.0 c.in_err-directed-in-Some.ensures.reads)

pub returns-in_err-name-in-Some-clause-reads : goal.returns-in_err-name-in-Some-clause-reads
returns-in_err-name-in-Some-clause-reads c =
    let p = err_from_is_err_and c.from_residual-in_err-name-in-Some.result c.from_residual-in_err-name-in-Some.ensures.1 in
    rw (p.1, p.2) ((next (rule.direction_part c.args.depth) (rule.port_1 c.args.depth) (rule.port_j0 c.args.depth) (rule.port_declared c.args.depth _ _ _ _ c.in-Some.ensures.reads) _ _ c.in_ok-directed-in-Some.ensures.reads).fails c.in_err-name-in-Some.field-0.0 c.in_err-name-in-Some.ensures.reads)

pub returns-in_ok-name-in-Some-clause-reads : goal.returns-in_ok-name-in-Some-clause-reads
returns-in_ok-name-in-Some-clause-reads c =
    ((next (rule.direction_part c.args.depth) (rule.port_1 c.args.depth) (rule.port_j0 c.args.depth) (rule.port_declared c.args.depth _ _ _ _ c.in-Some.ensures.reads) _ _ c.in_ok-directed-in-Some.ensures.reads).took _ _ c.in_ok-name-in-Some.ensures.reads)

pub returns-in_err-name-in-None-clause-reads : goal.returns-in_err-name-in-None-clause-reads
returns-in_err-name-in-None-clause-reads c =
    let p = err_from_is_err_and c.from_residual-in_err-name-in-None.result c.from_residual-in_err-name-in-None.ensures.1 in
    rw (p.1, p.2) ((rule.port_named c.args.depth _ c.in-None.ensures.reads).fails c.in_err-name-in-None.field-0.0 c.in_err-name-in-None.ensures.reads)

pub returns-in_ok-name-in-None-clause-reads : goal.returns-in_ok-name-in-None-clause-reads
returns-in_ok-name-in-None-clause-reads c =
    ((rule.port_named c.args.depth _ c.in-None.ensures.reads).took _ _ c.in_ok-name-in-None.ensures.reads)
