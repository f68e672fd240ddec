use Rattle.std.proofs.lemmas.Result.{err_from_is_err_and}
use Rattle.vl_tree.specs.declared.token.Mark.TheVariants as m
use Rattle.vl_tree.specs.Token as k
use Rattle.vl_read.proofs.TokenRules.{took_kind}
use Rattle.vl_simple.proofs.Steps.{fails_at, after_part}
use Rattle.vl_simple.proofs.PartRules as rule
use Rattle.vl_simple.proofs.parts.read_valued.Goals as goal

pub returns-in_err-name-clause-reads : goal.returns-in_err-name-clause-reads
returns-in_err-name-clause-reads c =
    let l0 = rule.valued_parts c.args.depth c.args.at in
    let p = err_from_is_err_and c.from_residual.result c.from_residual.ensures.1 in
    rw (p.1, p.2) (fails_at (rule.name_first c.args.depth) l0 c.in_err-name.field-0.0 c.in_err-name.ensures.reads)

pub returns-in_err-rest-clause-reads : goal.returns-in_err-rest-clause-reads
returns-in_err-rest-clause-reads c =
    let l0 = rule.valued_parts c.args.depth c.args.at in
    let l1 = after_part (rule.name_first c.args.depth) l0 _ _ c.in_ok-name.ensures.reads in
    let p = err_from_is_err_and c.from_residual-in_err-rest.result c.from_residual-in_err-rest.ensures.1 in
    rw (p.1, p.2) (fails_at (rule.equals_next c.args.depth) l1 c.in_err-rest.field-0.0 (c.in_err-rest.ensures.reads c.args.depth))

pub returns-in_err-value-clause-reads : goal.returns-in_err-value-clause-reads
returns-in_err-value-clause-reads c =
    let l0 = rule.valued_parts c.args.depth c.args.at in
    let l1 = after_part (rule.name_first c.args.depth) l0 _ _ c.in_ok-name.ensures.reads in
    let l2 = after_part (rule.equals_next c.args.depth) l1 _ _ (took_kind (k.mark m.Equals) c.args.depth c.in_ok-name.ensures.shallow _ _ _ c.in_ok-rest.ensures.reads.1) in
    let p = err_from_is_err_and c.from_residual-in_err-value.result c.from_residual-in_err-value.ensures.1 in
    rw (p.1, p.2) (l2.fails c.in_err-value.field-0.0 c.in_err-value.ensures.reads)

pub returns-clause-reads : goal.returns-clause-reads
returns-clause-reads c =
    let l0 = rule.valued_parts c.args.depth c.args.at in
    let l1 = after_part (rule.name_first c.args.depth) l0 _ _ c.in_ok-name.ensures.reads in
    let l2 = after_part (rule.equals_next c.args.depth) l1 _ _ (took_kind (k.mark m.Equals) c.args.depth c.in_ok-name.ensures.shallow _ _ _ c.in_ok-rest.ensures.reads.1) in
    l2.took _ _ c.in_ok-value.ensures.reads
