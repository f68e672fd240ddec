use Rattle.std.proofs.lemmas.Result.{err_from_is_err_and}
use Rattle.vl_declaration.proofs.Parts.{first, next, valued_by}
use Rattle.vl_declaration.proofs.EventRules as rule
use Rattle.vl_declaration.proofs.event.read_sensed.Goals as goal

pub returns-in_err-edge-clause-reads : goal.returns-in_err-edge-clause-reads
returns-in_err-edge-clause-reads c =
    let p = err_from_is_err_and c.from_residual.result c.from_residual.ensures.1 in
    rw (p.1, p.2) (first (rule.edge_part c.args.depth) (valued_by c.args.depth) (rule.edge_join c.args.depth) (rule.sensed_whole c.args.depth _) c.in_err-edge.field-0.0 c.in_err-edge.ensures.reads)

pub returns-in_err-signal-clause-reads : goal.returns-in_err-signal-clause-reads
returns-in_err-signal-clause-reads c =
    let p = err_from_is_err_and c.from_residual-in_err-signal.result c.from_residual-in_err-signal.ensures.1 in
    rw (p.1, p.2) ((next (rule.edge_part c.args.depth) (valued_by c.args.depth) (rule.edge_join c.args.depth) (rule.sensed_whole c.args.depth _) _ _ c.in_ok-edge.ensures.reads).fails c.in_err-signal.field-0.0 c.in_err-signal.ensures.reads)

pub returns-clause-reads : goal.returns-clause-reads
returns-clause-reads c =
    ((next (rule.edge_part c.args.depth) (valued_by c.args.depth) (rule.edge_join c.args.depth) (rule.sensed_whole c.args.depth _) _ _ c.in_ok-edge.ensures.reads).took _ _ c.in_ok-signal.ensures.reads)
