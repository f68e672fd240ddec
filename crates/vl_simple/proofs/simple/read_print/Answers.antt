use Rattle.std.proofs.lemmas.Result.{err_from_is_err_and}
use Rattle.vl_tree.specs.declared.token.Mark.TheVariants as m
use Rattle.vl_tree.specs.Token as k
use Rattle.vl_read.proofs.TokenRules.{took_kind}
use Rattle.vl_tree.specs.SyntaxView as plain
use Rattle.vl_simple.proofs.Steps.{fails_at, after_part}
use Rattle.vl_simple.proofs.TaskRules as rule
use Rattle.vl_simple.proofs.Views as view
use Rattle.vl_simple.proofs.simple.read_print.Goals as goal

pub returns-in_err-printed-clause-reads : goal.returns-in_err-printed-clause-reads
returns-in_err-printed-clause-reads c =
    let l0 = rule.print_parts c.args.depth (plain.place c.args.place) (plain.print c.args.print) c.args.at in
    let p = err_from_is_err_and c.from_residual.result c.from_residual.ensures.1 in
    rw (p.1, p.2) (fails_at (rule.printed_next c.args.depth (plain.place c.args.place)) l0 c.in_err-printed.field-0.0 c.in_err-printed.ensures.reads)

pub returns-in_err-rest-clause-reads : goal.returns-in_err-rest-clause-reads
returns-in_err-rest-clause-reads c =
    let l0 = rule.print_parts c.args.depth (plain.place c.args.place) (plain.print c.args.print) c.args.at in
    let l1 = after_part (rule.printed_next c.args.depth (plain.place c.args.place)) l0 _ _ c.in_ok-printed.ensures.reads in
    let p = err_from_is_err_and c.from_residual-in_err-rest.result c.from_residual-in_err-rest.ensures.1 in
    rw (p.1, p.2) (l1.fails c.in_err-rest.field-0.0 (c.in_err-rest.ensures.reads c.args.depth))

pub returns-clause-reads : goal.returns-clause-reads
returns-clause-reads c =
    let l0 = rule.print_parts c.args.depth (plain.place c.args.place) (plain.print c.args.print) c.args.at in
    let l1 = after_part (rule.printed_next c.args.depth (plain.place c.args.place)) l0 _ _ c.in_ok-printed.ensures.reads in
    rw (view.stmt-print c.args.place c.args.print c.in_ok-printed.printed)
    (l1.took _ _ (took_kind (k.mark m.Semicolon) c.args.depth c.requires.low _ _ _ c.in_ok-rest.ensures.reads.1))
