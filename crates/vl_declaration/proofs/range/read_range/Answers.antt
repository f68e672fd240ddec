use Rattle.std.proofs.Common.{◌+◌}
use Rattle.std.proofs.lemmas.Result.{err_from_is_err_and}
use Rattle.vl_tree.specs.declared.token.Mark.TheVariants as m
use Rattle.vl_tree.specs.Token as k
use Rattle.vl_declaration.proofs.Parts.{first, next, passed, passes, valued_by}
use Rattle.vl_declaration.proofs.RangeRules as rule
use Rattle.vl_declaration.proofs.range.read_range.Goals as goal

pub returns-in-None-clause-reads : goal.returns-in-None-clause-reads
returns-in-None-clause-reads c =
    rule.range_none c.args.depth _ c.in-None.ensures.reads

pub returns-in_err-left-in-Some-clause-reads : goal.returns-in_err-left-in-Some-clause-reads
returns-in_err-left-in-Some-clause-reads c =
    let p = err_from_is_err_and c.from_residual.result c.from_residual.ensures.1 in
    rw (p.1, p.2) (first (valued_by (c.args.depth + 1)) (rule.range_1 c.args.depth) (rule.range_j0 c.args.depth) (rule.range_part c.args.depth c.requires.low _ _ _ c.in-Some.ensures.reads) c.in_err-left-in-Some.field-0.0 c.in_err-left-in-Some.ensures.reads)

pub returns-in_err-rest-in-Some-clause-reads : goal.returns-in_err-rest-in-Some-clause-reads
returns-in_err-rest-in-Some-clause-reads c =
    let p = err_from_is_err_and c.from_residual-in_err-rest-in-Some.result c.from_residual-in_err-rest-in-Some.ensures.1 in
    rw (p.1, p.2) (first (passed (c.args.depth + 1) (k.mark m.Colon)) (rule.range_2 c.args.depth) (rule.range_j1 c.args.depth) (next (valued_by (c.args.depth + 1)) (rule.range_1 c.args.depth) (rule.range_j0 c.args.depth) (rule.range_part c.args.depth c.requires.low _ _ _ c.in-Some.ensures.reads) _ _ c.in_ok-left-in-Some.ensures.reads) c.in_err-rest-in-Some.field-0.0 (c.in_err-rest-in-Some.ensures.reads (c.args.depth + 1)))

pub returns-in_err-right-in-Some-clause-reads : goal.returns-in_err-right-in-Some-clause-reads
returns-in_err-right-in-Some-clause-reads c =
    let p = err_from_is_err_and c.from_residual-in_err-right-in-Some.result c.from_residual-in_err-right-in-Some.ensures.1 in
    rw (p.1, p.2) (first (valued_by (c.args.depth + 1)) (rule.range_3 c.args.depth) (rule.range_j2 c.args.depth) (next (passed (c.args.depth + 1) (k.mark m.Colon)) (rule.range_2 c.args.depth) (rule.range_j1 c.args.depth) (next (valued_by (c.args.depth + 1)) (rule.range_1 c.args.depth) (rule.range_j0 c.args.depth) (rule.range_part c.args.depth c.requires.low _ _ _ c.in-Some.ensures.reads) _ _ c.in_ok-left-in-Some.ensures.reads) _ _ (passes (c.args.depth + 1) (k.mark m.Colon) (c.in_ok-left-in-Some.ensures.shallow) _ _ c.in_ok-rest-in-Some.ensures.reads)) c.in_err-right-in-Some.field-0.0 c.in_err-right-in-Some.ensures.reads)

pub returns-in_err-rest-in-Some-2-clause-reads : goal.returns-in_err-rest-in-Some-2-clause-reads
returns-in_err-rest-in-Some-2-clause-reads c =
    let p = err_from_is_err_and c.from_residual-in_err-rest-in-Some-2.result c.from_residual-in_err-rest-in-Some-2.ensures.1 in
    rw (p.1, p.2) ((next (valued_by (c.args.depth + 1)) (rule.range_3 c.args.depth) (rule.range_j2 c.args.depth) (next (passed (c.args.depth + 1) (k.mark m.Colon)) (rule.range_2 c.args.depth) (rule.range_j1 c.args.depth) (next (valued_by (c.args.depth + 1)) (rule.range_1 c.args.depth) (rule.range_j0 c.args.depth) (rule.range_part c.args.depth c.requires.low _ _ _ c.in-Some.ensures.reads) _ _ c.in_ok-left-in-Some.ensures.reads) _ _ (passes (c.args.depth + 1) (k.mark m.Colon) (c.in_ok-left-in-Some.ensures.shallow) _ _ c.in_ok-rest-in-Some.ensures.reads)) _ _ c.in_ok-right-in-Some.ensures.reads).fails c.in_err-rest-in-Some-2.field-0.0 (c.in_err-rest-in-Some-2.ensures.reads (c.args.depth)))

pub returns-in_ok-rest-in-Some-2-clause-reads : goal.returns-in_ok-rest-in-Some-2-clause-reads
returns-in_ok-rest-in-Some-2-clause-reads c =
    ((next (valued_by (c.args.depth + 1)) (rule.range_3 c.args.depth) (rule.range_j2 c.args.depth) (next (passed (c.args.depth + 1) (k.mark m.Colon)) (rule.range_2 c.args.depth) (rule.range_j1 c.args.depth) (next (valued_by (c.args.depth + 1)) (rule.range_1 c.args.depth) (rule.range_j0 c.args.depth) (rule.range_part c.args.depth c.requires.low _ _ _ c.in-Some.ensures.reads) _ _ c.in_ok-left-in-Some.ensures.reads) _ _ (passes (c.args.depth + 1) (k.mark m.Colon) (c.in_ok-left-in-Some.ensures.shallow) _ _ c.in_ok-rest-in-Some.ensures.reads)) _ _ c.in_ok-right-in-Some.ensures.reads).took _ _ (passes (c.args.depth) (k.mark m.CloseBracket) (c.requires.low) _ _ c.in_ok-rest-in-Some-2.ensures.reads))
