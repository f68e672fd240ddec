use Rattle.std.proofs.lemmas.Result.{err_from_is_err_and}
use Rattle.vl_tree.specs.declared.token.Mark.TheVariants as m
use Rattle.vl_tree.specs.Token as k
use Rattle.vl_declaration.proofs.Parts.{first, next, passes}
use Rattle.vl_header.proofs.HeaderRules as rule
use Rattle.vl_read.proofs.Pieces.{took_nothing}
use Rattle.vl_read.specs.Reading.{Any}
use Rattle.vl_header.proofs.header.read_closed_ports.Goals as goal

pub returns-in-Some-clause-reads : goal.returns-in-Some-clause-reads
returns-in-Some-clause-reads c =
    rw c.new.ensures ((rule.no_port_part c.args.depth c.requires.low _ _ _ c.in-Some.ensures.reads).took tt _ (took_nothing Any Any _))

pub returns-in_err-ports-in-Some-find_direction-clause-reads : goal.returns-in_err-ports-in-Some-find_direction-clause-reads
returns-in_err-ports-in-Some-find_direction-clause-reads c =
    let p = err_from_is_err_and c.from_residual.result c.from_residual.ensures.1 in
    rw (p.1, p.2) (first (rule.port_list c.args.depth) (rule.ports_1 c.args.depth) (rule.ports_j0 c.args.depth) (rule.ports_part c.args.depth _ _ _ _ c.in-Some-find_direction.ensures.reads) c.in_err-ports-in-Some-find_direction.field-0.0 c.in_err-ports-in-Some-find_direction.ensures.reads)

pub returns-in_err-rest-in-Some-find_direction-clause-reads : goal.returns-in_err-rest-in-Some-find_direction-clause-reads
returns-in_err-rest-in-Some-find_direction-clause-reads c =
    let p = err_from_is_err_and c.from_residual-in_err-rest-in-Some-find_direction.result c.from_residual-in_err-rest-in-Some-find_direction.ensures.1 in
    rw (p.1, p.2) ((next (rule.port_list c.args.depth) (rule.ports_1 c.args.depth) (rule.ports_j0 c.args.depth) (rule.ports_part c.args.depth _ _ _ _ c.in-Some-find_direction.ensures.reads) _ _ c.in_ok-ports-in-Some-find_direction.ensures.reads).fails c.in_err-rest-in-Some-find_direction.field-0.0 (c.in_err-rest-in-Some-find_direction.ensures.reads (c.args.depth)))

pub returns-in_ok-rest-in-Some-find_direction-clause-reads : goal.returns-in_ok-rest-in-Some-find_direction-clause-reads
returns-in_ok-rest-in-Some-find_direction-clause-reads c =
    ((next (rule.port_list c.args.depth) (rule.ports_1 c.args.depth) (rule.ports_j0 c.args.depth) (rule.ports_part c.args.depth _ _ _ _ c.in-Some-find_direction.ensures.reads) _ _ c.in_ok-ports-in-Some-find_direction.ensures.reads).took _ _ (passes (c.args.depth) (k.mark m.CloseParen) (c.requires.low) _ _ c.in_ok-rest-in-Some-find_direction.ensures.reads))

pub returns-in_err-ports-in-None-clause-reads : goal.returns-in_err-ports-in-None-clause-reads
returns-in_err-ports-in-None-clause-reads c =
    let p = err_from_is_err_and c.from_residual-in_err-ports-in-None.result c.from_residual-in_err-ports-in-None.ensures.1 in
    rw (p.1, p.2) (first (rule.name_list c.args.depth) (rule.names_1 c.args.depth) (rule.names_j0 c.args.depth) (rule.names_part c.args.depth _ c.in-None.ensures.reads c.in_default.ensures.reads) c.in_err-ports-in-None.field-0.0 c.in_err-ports-in-None.ensures.reads)

pub returns-in_err-rest-in-None-clause-reads : goal.returns-in_err-rest-in-None-clause-reads
returns-in_err-rest-in-None-clause-reads c =
    let p = err_from_is_err_and c.from_residual-in_err-rest-in-None.result c.from_residual-in_err-rest-in-None.ensures.1 in
    rw (p.1, p.2) ((next (rule.name_list c.args.depth) (rule.names_1 c.args.depth) (rule.names_j0 c.args.depth) (rule.names_part c.args.depth _ c.in-None.ensures.reads c.in_default.ensures.reads) _ _ c.in_ok-ports-in-None.ensures.reads).fails c.in_err-rest-in-None.field-0.0 (c.in_err-rest-in-None.ensures.reads (c.args.depth)))

pub returns-in_ok-rest-in-None-clause-reads : goal.returns-in_ok-rest-in-None-clause-reads
returns-in_ok-rest-in-None-clause-reads c =
    ((next (rule.name_list c.args.depth) (rule.names_1 c.args.depth) (rule.names_j0 c.args.depth) (rule.names_part c.args.depth _ c.in-None.ensures.reads c.in_default.ensures.reads) _ _ c.in_ok-ports-in-None.ensures.reads).took _ _ (passes (c.args.depth) (k.mark m.CloseParen) (c.requires.low) _ _ c.in_ok-rest-in-None.ensures.reads))
