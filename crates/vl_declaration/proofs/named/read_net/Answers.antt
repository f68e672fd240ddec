use Rattle.std.proofs.lemmas.Result.{err_from_is_err_and}
use Rattle.vl_declaration.proofs.Parts.{first, next, named}
use Rattle.vl_declaration.proofs.NamedRules as rule
use Rattle.vl_declaration.proofs.named.read_net.Goals as goal

pub returns-in_err-name-clause-reads : goal.returns-in_err-name-clause-reads
returns-in_err-name-clause-reads c =
    let p = err_from_is_err_and c.from_residual.result c.from_residual.ensures.1 in
    rw (p.1, p.2) (first (named c.args.depth) (rule.net_1 c.args.depth) (rule.net_j0 c.args.depth) (rule.net_whole c.args.depth _) c.in_err-name.field-0.0 c.in_err-name.ensures.reads)

pub returns-in_err-value-clause-reads : goal.returns-in_err-value-clause-reads
returns-in_err-value-clause-reads c =
    let p = err_from_is_err_and c.from_residual-in_err-value.result c.from_residual-in_err-value.ensures.1 in
    rw (p.1, p.2) ((next (named c.args.depth) (rule.net_1 c.args.depth) (rule.net_j0 c.args.depth) (rule.net_whole c.args.depth _) _ _ c.in_ok-name.ensures.reads).fails c.in_err-value.field-0.0 c.in_err-value.ensures.reads)

pub returns-clause-reads : goal.returns-clause-reads
returns-clause-reads c =
    ((next (named c.args.depth) (rule.net_1 c.args.depth) (rule.net_j0 c.args.depth) (rule.net_whole c.args.depth _) _ _ c.in_ok-name.ensures.reads).took _ _ c.in_ok-value.ensures.reads)
