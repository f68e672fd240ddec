use Rattle.std.proofs.lemmas.Result.{err_from_is_err_and}
use Rattle.vl_tree.specs.declared.token.Mark.TheVariants as m
use Rattle.vl_tree.specs.Token as k
use Rattle.vl_read.proofs.TokenRules.{took_kind}
use Rattle.vl_tree.specs.SyntaxView as plain
use Rattle.vl_simple.proofs.Steps.{fails_at, after_part}
use Rattle.vl_simple.proofs.TaskRules as rule
use Rattle.vl_simple.proofs.Views as view
use Rattle.vl_simple.proofs.simple.read_fatal.Goals as goal

pub returns-in_err-list-clause-reads : goal.returns-in_err-list-clause-reads
returns-in_err-list-clause-reads c =
    let l0 = rule.fatal_parts c.args.depth (plain.place c.args.place) c.args.at in
    let p = err_from_is_err_and c.from_residual.result c.from_residual.ensures.1 in
    rw (p.1, p.2) (fails_at (rule.list_next c.args.depth (plain.place c.args.place)) l0 c.in_err-list.field-0.0 (c.in_err-list.ensures.reads c.args.depth c.requires.low))

pub returns-in_err-rest-clause-reads : goal.returns-in_err-rest-clause-reads
returns-in_err-rest-clause-reads c =
    let l0 = rule.fatal_parts c.args.depth (plain.place c.args.place) c.args.at in
    let l1 = after_part (rule.list_next c.args.depth (plain.place c.args.place)) l0 _ _ (c.in_ok-list.ensures.reads c.args.depth c.requires.low) in
    let p = err_from_is_err_and c.from_residual-in_err-rest.result c.from_residual-in_err-rest.ensures.1 in
    rw (p.1, p.2) (l1.fails c.in_err-rest.field-0.0 (c.in_err-rest.ensures.reads c.args.depth))

pub returns-clause-reads : goal.returns-clause-reads
returns-clause-reads c =
    let l0 = rule.fatal_parts c.args.depth (plain.place c.args.place) c.args.at in
    let l1 = after_part (rule.list_next c.args.depth (plain.place c.args.place)) l0 _ _ (c.in_ok-list.ensures.reads c.args.depth c.requires.low) in
    rw (view.stmt-fatal c.args.place c.in_ok-list.list)
    (l1.took _ _ (took_kind (k.mark m.Semicolon) c.args.depth c.requires.low _ _ _ c.in_ok-rest.ensures.reads.1))
