use Rattle.std.proofs.Common.{◌+◌}
use Rattle.std.proofs.lemmas.Result.{err_from_is_err_and}
use Rattle.vl_tree.specs.declared.token.Mark.TheVariants as m
use Rattle.vl_tree.specs.Token as k
use Rattle.vl_read.proofs.TokenRules.{took_kind}
use Rattle.vl_tree.specs.SyntaxView as plain
use Rattle.vl_simple.proofs.Steps.{fails_at, after_part}
use Rattle.vl_simple.proofs.TaskRules as rule
use Rattle.vl_simple.proofs.Views as view
use Rattle.vl_simple.proofs.simple.read_file_print.Goals as goal

pub returns-in_err-rest-clause-reads : goal.returns-in_err-rest-clause-reads
returns-in_err-rest-clause-reads c =
    let l0 = rule.file_parts c.args.depth (plain.place c.args.place) c.args.at in
    let p = err_from_is_err_and c.from_residual.result c.from_residual.ensures.1 in
    rw (p.1, p.2) (fails_at (rule.file_1 c.args.depth (plain.place c.args.place)) l0 c.in_err-rest.field-0.0 (c.in_err-rest.ensures.reads c.args.depth))

pub returns-in_err-file-clause-reads : goal.returns-in_err-file-clause-reads
returns-in_err-file-clause-reads c =
    let l0 = rule.file_parts c.args.depth (plain.place c.args.place) c.args.at in
    let l1 = after_part (rule.file_1 c.args.depth (plain.place c.args.place)) l0 _ _
    (took_kind (k.mark m.OpenParen) c.args.depth c.requires.low _ _ _ c.in_ok-rest.ensures.reads.1) in
    let p = err_from_is_err_and c.from_residual-in_err-file.result c.from_residual-in_err-file.ensures.1 in
    rw (p.1, p.2) (fails_at (rule.file_2 c.args.depth (plain.place c.args.place)) l1 c.in_err-file.field-0.0 c.in_err-file.ensures.reads)

pub returns-in_err-rest-2-clause-reads : goal.returns-in_err-rest-2-clause-reads
returns-in_err-rest-2-clause-reads c =
    let l0 = rule.file_parts c.args.depth (plain.place c.args.place) c.args.at in
    let l1 = after_part (rule.file_1 c.args.depth (plain.place c.args.place)) l0 _ _
    (took_kind (k.mark m.OpenParen) c.args.depth c.requires.low _ _ _ c.in_ok-rest.ensures.reads.1) in
    let l2 = after_part (rule.file_2 c.args.depth (plain.place c.args.place)) l1 _ _ c.in_ok-file.ensures.reads in
    let p = err_from_is_err_and c.from_residual-in_err-rest-2.result c.from_residual-in_err-rest-2.ensures.1 in
    rw (p.1, p.2) (fails_at (rule.file_3 c.args.depth (plain.place c.args.place)) l2
    c.in_err-rest-2.field-0.0 (c.in_err-rest-2.ensures.reads (c.args.depth + 1)))

pub returns-in_err-format-clause-reads : goal.returns-in_err-format-clause-reads
returns-in_err-format-clause-reads c =
    let l0 = rule.file_parts c.args.depth (plain.place c.args.place) c.args.at in
    let l1 = after_part (rule.file_1 c.args.depth (plain.place c.args.place)) l0 _ _
    (took_kind (k.mark m.OpenParen) c.args.depth c.requires.low _ _ _ c.in_ok-rest.ensures.reads.1) in
    let l2 = after_part (rule.file_2 c.args.depth (plain.place c.args.place)) l1 _ _ c.in_ok-file.ensures.reads in
    let l3 = after_part (rule.file_3 c.args.depth (plain.place c.args.place)) l2 _ _
    (took_kind (k.mark m.Comma) (c.args.depth + 1) c.in_ok-file.ensures.shallow _ _ _ c.in_ok-rest-2.ensures.reads.1) in
    let p = err_from_is_err_and c.from_residual-in_err-format.result c.from_residual-in_err-format.ensures.1 in
    rw (p.1, p.2) (fails_at (rule.file_4 c.args.depth (plain.place c.args.place)) l3 c.in_err-format.field-0.0 c.in_err-format.ensures.reads)

pub returns-in_err-rest-3-clause-reads : goal.returns-in_err-rest-3-clause-reads
returns-in_err-rest-3-clause-reads c =
    let l0 = rule.file_parts c.args.depth (plain.place c.args.place) c.args.at in
    let l1 = after_part (rule.file_1 c.args.depth (plain.place c.args.place)) l0 _ _
    (took_kind (k.mark m.OpenParen) c.args.depth c.requires.low _ _ _ c.in_ok-rest.ensures.reads.1) in
    let l2 = after_part (rule.file_2 c.args.depth (plain.place c.args.place)) l1 _ _ c.in_ok-file.ensures.reads in
    let l3 = after_part (rule.file_3 c.args.depth (plain.place c.args.place)) l2 _ _
    (took_kind (k.mark m.Comma) (c.args.depth + 1) c.in_ok-file.ensures.shallow _ _ _ c.in_ok-rest-2.ensures.reads.1) in
    let l4 = after_part (rule.file_4 c.args.depth (plain.place c.args.place)) l3 _ _ c.in_ok-format.ensures.reads in
    let p = err_from_is_err_and c.from_residual-in_err-rest-3.result c.from_residual-in_err-rest-3.ensures.1 in
    rw (p.1, p.2) (fails_at (rule.file_5 c.args.depth (plain.place c.args.place)) l4 c.in_err-rest-3.field-0.0 (c.in_err-rest-3.ensures.reads c.args.depth))

pub returns-in_err-rest-4-clause-reads : goal.returns-in_err-rest-4-clause-reads
returns-in_err-rest-4-clause-reads c =
    let l0 = rule.file_parts c.args.depth (plain.place c.args.place) c.args.at in
    let l1 = after_part (rule.file_1 c.args.depth (plain.place c.args.place)) l0 _ _
    (took_kind (k.mark m.OpenParen) c.args.depth c.requires.low _ _ _ c.in_ok-rest.ensures.reads.1) in
    let l2 = after_part (rule.file_2 c.args.depth (plain.place c.args.place)) l1 _ _ c.in_ok-file.ensures.reads in
    let l3 = after_part (rule.file_3 c.args.depth (plain.place c.args.place)) l2 _ _
    (took_kind (k.mark m.Comma) (c.args.depth + 1) c.in_ok-file.ensures.shallow _ _ _ c.in_ok-rest-2.ensures.reads.1) in
    let l4 = after_part (rule.file_4 c.args.depth (plain.place c.args.place)) l3 _ _ c.in_ok-format.ensures.reads in
    let l5 = after_part (rule.file_5 c.args.depth (plain.place c.args.place)) l4 _ _
    (took_kind (k.mark m.CloseParen) c.args.depth c.requires.low _ _ _ c.in_ok-rest-3.ensures.reads.1) in
    let p = err_from_is_err_and c.from_residual-in_err-rest-4.result c.from_residual-in_err-rest-4.ensures.1 in
    rw (p.1, p.2) (l5.fails c.in_err-rest-4.field-0.0 (c.in_err-rest-4.ensures.reads c.args.depth))

pub returns-clause-reads : goal.returns-clause-reads
returns-clause-reads c =
    let l0 = rule.file_parts c.args.depth (plain.place c.args.place) c.args.at in
    let l1 = after_part (rule.file_1 c.args.depth (plain.place c.args.place)) l0 _ _
    (took_kind (k.mark m.OpenParen) c.args.depth c.requires.low _ _ _ c.in_ok-rest.ensures.reads.1) in
    let l2 = after_part (rule.file_2 c.args.depth (plain.place c.args.place)) l1 _ _ c.in_ok-file.ensures.reads in
    let l3 = after_part (rule.file_3 c.args.depth (plain.place c.args.place)) l2 _ _
    (took_kind (k.mark m.Comma) (c.args.depth + 1) c.in_ok-file.ensures.shallow _ _ _ c.in_ok-rest-2.ensures.reads.1) in
    let l4 = after_part (rule.file_4 c.args.depth (plain.place c.args.place)) l3 _ _ c.in_ok-format.ensures.reads in
    let l5 = after_part (rule.file_5 c.args.depth (plain.place c.args.place)) l4 _ _
    (took_kind (k.mark m.CloseParen) c.args.depth c.requires.low _ _ _ c.in_ok-rest-3.ensures.reads.1) in
    rw (view.stmt-file c.args.place c.in_ok-file.file c.in_ok-format.format.place c.in_ok-format.format.text c.in_ok-format.format.values)
    (l5.took _ _ (took_kind (k.mark m.Semicolon) c.args.depth c.requires.low _ _ _ c.in_ok-rest-4.ensures.reads.1))
