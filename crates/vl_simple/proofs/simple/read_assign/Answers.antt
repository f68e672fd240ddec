use Rattle.std.proofs.lemmas.Result.{err_from_is_err_and}
use Rattle.vl_tree.specs.declared.token.Mark.TheVariants as m
use Rattle.vl_tree.specs.Token as k
use Rattle.vl_read.specs.declared.fault.Fault.TheVariants as f
use Rattle.vl_read.proofs.TokenRules.{took_kind}
use Rattle.vl_tree.specs.SyntaxView as plain
use Rattle.vl_simple.proofs.Steps.{fails_at, after_part}
use Rattle.vl_simple.proofs.SimpleRules as rule
use Rattle.vl_simple.proofs.Views as view
use Rattle.vl_simple.proofs.simple.read_assign.Goals as goal

pub returns-in_err-target-clause-reads : goal.returns-in_err-target-clause-reads
returns-in_err-target-clause-reads c =
    let l0 = rule.assign_parts c.args.depth c.args.at in
    let p = err_from_is_err_and c.from_residual.result c.from_residual.ensures.1 in
    rw (p.1, p.2) (fails_at (rule.target_first c.args.depth) l0 c.in_err-target.field-0.0 c.in_err-target.ensures.reads)

pub returns-in_default-clause-reads : goal.returns-in_default-clause-reads
returns-in_default-clause-reads c =
    let l0 = rule.assign_parts c.args.depth c.args.at in
    let l1 = after_part (rule.target_first c.args.depth) l0 _ _ c.in_ok-target.ensures.reads in
    rw c.left.ensures (fails_at (rule.sign_next c.args.depth) l1 (f.At _) (rule.stuck_sign c.args.depth _ c.in_default.ensures.reads))

pub returns-in_err-value-clause-reads : goal.returns-in_err-value-clause-reads
returns-in_err-value-clause-reads c =
    let l0 = rule.assign_parts c.args.depth c.args.at in
    let l1 = after_part (rule.target_first c.args.depth) l0 _ _ c.in_ok-target.ensures.reads in
    let l2 = after_part (rule.sign_next c.args.depth) l1 _ _
    (rule.took_sign c.args.depth c.requires.low (plain.assignment c.in-Some.assignment) _ _ _ c.in-Some.ensures.reads) in
    let p = err_from_is_err_and c.from_residual-in_err-value.result c.from_residual-in_err-value.ensures.1 in
    rw (p.1, p.2) (fails_at (rule.value_next c.args.depth) l2 c.in_err-value.field-0.0 c.in_err-value.ensures.reads)

pub returns-in_err-rest-clause-reads : goal.returns-in_err-rest-clause-reads
returns-in_err-rest-clause-reads c =
    let l0 = rule.assign_parts c.args.depth c.args.at in
    let l1 = after_part (rule.target_first c.args.depth) l0 _ _ c.in_ok-target.ensures.reads in
    let l2 = after_part (rule.sign_next c.args.depth) l1 _ _
    (rule.took_sign c.args.depth c.requires.low (plain.assignment c.in-Some.assignment) _ _ _ c.in-Some.ensures.reads) in
    let l3 = after_part (rule.value_next c.args.depth) l2 _ _ c.in_ok-value.ensures.reads in
    let p = err_from_is_err_and c.from_residual-in_err-rest.result c.from_residual-in_err-rest.ensures.1 in
    rw (p.1, p.2) (l3.fails c.in_err-rest.field-0.0 (c.in_err-rest.ensures.reads c.args.depth))

pub returns-clause-reads : goal.returns-clause-reads
returns-clause-reads c =
    let l0 = rule.assign_parts c.args.depth c.args.at in
    let l1 = after_part (rule.target_first c.args.depth) l0 _ _ c.in_ok-target.ensures.reads in
    let l2 = after_part (rule.sign_next c.args.depth) l1 _ _
    (rule.took_sign c.args.depth c.requires.low (plain.assignment c.in-Some.assignment) _ _ _ c.in-Some.ensures.reads) in
    let l3 = after_part (rule.value_next c.args.depth) l2 _ _ c.in_ok-value.ensures.reads in
    rw (view.stmt-assign c.in_ok-target.target c.in-Some.assignment c.in-Some.place c.in_ok-value.value)
    (l3.took _ _ (took_kind (k.mark m.Semicolon) c.args.depth c.requires.low _ _ _ c.in_ok-rest.ensures.reads.1))
