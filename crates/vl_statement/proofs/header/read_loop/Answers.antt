use Rattle.std.proofs.Common.{◌+◌}
use Rattle.std.proofs.lemmas.Result.{err_from_is_err_and}
use Rattle.vl_tree.specs.declared.token.Mark.TheVariants as m
use Rattle.vl_tree.specs.Token as k
use Rattle.vl_read.proofs.TokenRules.{took_kind}
use Rattle.vl_simple.proofs.Steps.{fails_at, after_part}
use Rattle.vl_statement.proofs.LoopRules as rule
use Rattle.vl_statement.proofs.header.read_loop.Goals as goal

pub returns-in_err-rest-clause-reads : goal.returns-in_err-rest-clause-reads
returns-in_err-rest-clause-reads c =
    let l0 = rule.loop_parts c.args.depth c.args.at in
    let p = err_from_is_err_and c.from_residual.result c.from_residual.ensures.1 in
    rw (p.1, p.2) (fails_at (rule.loop_1 c.args.depth) l0 c.in_err-rest.field-0.0 (c.in_err-rest.ensures.reads c.args.depth))

pub returns-in_err-begin-clause-reads : goal.returns-in_err-begin-clause-reads
returns-in_err-begin-clause-reads c =
    let l0 = rule.loop_parts c.args.depth c.args.at in
    let l1 = after_part (rule.loop_1 c.args.depth) l0 _ _ (took_kind (k.mark m.OpenParen) c.args.depth c.requires.low _ _ _ c.in_ok-rest.ensures.reads.1) in
    let p = err_from_is_err_and c.from_residual-in_err-begin.result c.from_residual-in_err-begin.ensures.1 in
    rw (p.1, p.2) (fails_at (rule.loop_2 c.args.depth) l1 c.in_err-begin.field-0.0 c.in_err-begin.ensures.reads)

pub returns-in_err-rest-2-clause-reads : goal.returns-in_err-rest-2-clause-reads
returns-in_err-rest-2-clause-reads c =
    let l0 = rule.loop_parts c.args.depth c.args.at in
    let l1 = after_part (rule.loop_1 c.args.depth) l0 _ _ (took_kind (k.mark m.OpenParen) c.args.depth c.requires.low _ _ _ c.in_ok-rest.ensures.reads.1) in
    let l2 = after_part (rule.loop_2 c.args.depth) l1 _ _ c.in_ok-begin.ensures.reads in
    let p = err_from_is_err_and c.from_residual-in_err-rest-2.result c.from_residual-in_err-rest-2.ensures.1 in
    rw (p.1, p.2) (fails_at (rule.loop_3 c.args.depth) l2 c.in_err-rest-2.field-0.0 (c.in_err-rest-2.ensures.reads (c.args.depth + 1)))

pub returns-in_err-condition-clause-reads : goal.returns-in_err-condition-clause-reads
returns-in_err-condition-clause-reads c =
    let l0 = rule.loop_parts c.args.depth c.args.at in
    let l1 = after_part (rule.loop_1 c.args.depth) l0 _ _ (took_kind (k.mark m.OpenParen) c.args.depth c.requires.low _ _ _ c.in_ok-rest.ensures.reads.1) in
    let l2 = after_part (rule.loop_2 c.args.depth) l1 _ _ c.in_ok-begin.ensures.reads in
    let l3 = after_part (rule.loop_3 c.args.depth) l2 _ _ (took_kind (k.mark m.Semicolon) (c.args.depth + 1) c.in_ok-begin.ensures.shallow _ _ _ c.in_ok-rest-2.ensures.reads.1) in
    let p = err_from_is_err_and c.from_residual-in_err-condition.result c.from_residual-in_err-condition.ensures.1 in
    rw (p.1, p.2) (fails_at (rule.loop_4 c.args.depth) l3 c.in_err-condition.field-0.0 c.in_err-condition.ensures.reads)

pub returns-in_err-rest-3-clause-reads : goal.returns-in_err-rest-3-clause-reads
returns-in_err-rest-3-clause-reads c =
    let l0 = rule.loop_parts c.args.depth c.args.at in
    let l1 = after_part (rule.loop_1 c.args.depth) l0 _ _ (took_kind (k.mark m.OpenParen) c.args.depth c.requires.low _ _ _ c.in_ok-rest.ensures.reads.1) in
    let l2 = after_part (rule.loop_2 c.args.depth) l1 _ _ c.in_ok-begin.ensures.reads in
    let l3 = after_part (rule.loop_3 c.args.depth) l2 _ _ (took_kind (k.mark m.Semicolon) (c.args.depth + 1) c.in_ok-begin.ensures.shallow _ _ _ c.in_ok-rest-2.ensures.reads.1) in
    let l4 = after_part (rule.loop_4 c.args.depth) l3 _ _ c.in_ok-condition.ensures.reads in
    let p = err_from_is_err_and c.from_residual-in_err-rest-3.result c.from_residual-in_err-rest-3.ensures.1 in
    rw (p.1, p.2) (fails_at (rule.loop_5 c.args.depth) l4 c.in_err-rest-3.field-0.0 (c.in_err-rest-3.ensures.reads (c.args.depth + 1)))

pub returns-in_err-next-clause-reads : goal.returns-in_err-next-clause-reads
returns-in_err-next-clause-reads c =
    let l0 = rule.loop_parts c.args.depth c.args.at in
    let l1 = after_part (rule.loop_1 c.args.depth) l0 _ _ (took_kind (k.mark m.OpenParen) c.args.depth c.requires.low _ _ _ c.in_ok-rest.ensures.reads.1) in
    let l2 = after_part (rule.loop_2 c.args.depth) l1 _ _ c.in_ok-begin.ensures.reads in
    let l3 = after_part (rule.loop_3 c.args.depth) l2 _ _ (took_kind (k.mark m.Semicolon) (c.args.depth + 1) c.in_ok-begin.ensures.shallow _ _ _ c.in_ok-rest-2.ensures.reads.1) in
    let l4 = after_part (rule.loop_4 c.args.depth) l3 _ _ c.in_ok-condition.ensures.reads in
    let l5 = after_part (rule.loop_5 c.args.depth) l4 _ _ (took_kind (k.mark m.Semicolon) (c.args.depth + 1) c.in_ok-begin.ensures.shallow _ _ _ c.in_ok-rest-3.ensures.reads.1) in
    let p = err_from_is_err_and c.from_residual-in_err-next.result c.from_residual-in_err-next.ensures.1 in
    rw (p.1, p.2) (fails_at (rule.loop_6 c.args.depth) l5 c.in_err-next.field-0.0 c.in_err-next.ensures.reads)

pub returns-in_err-rest-4-clause-reads : goal.returns-in_err-rest-4-clause-reads
returns-in_err-rest-4-clause-reads c =
    let l0 = rule.loop_parts c.args.depth c.args.at in
    let l1 = after_part (rule.loop_1 c.args.depth) l0 _ _ (took_kind (k.mark m.OpenParen) c.args.depth c.requires.low _ _ _ c.in_ok-rest.ensures.reads.1) in
    let l2 = after_part (rule.loop_2 c.args.depth) l1 _ _ c.in_ok-begin.ensures.reads in
    let l3 = after_part (rule.loop_3 c.args.depth) l2 _ _ (took_kind (k.mark m.Semicolon) (c.args.depth + 1) c.in_ok-begin.ensures.shallow _ _ _ c.in_ok-rest-2.ensures.reads.1) in
    let l4 = after_part (rule.loop_4 c.args.depth) l3 _ _ c.in_ok-condition.ensures.reads in
    let l5 = after_part (rule.loop_5 c.args.depth) l4 _ _ (took_kind (k.mark m.Semicolon) (c.args.depth + 1) c.in_ok-begin.ensures.shallow _ _ _ c.in_ok-rest-3.ensures.reads.1) in
    let l6 = after_part (rule.loop_6 c.args.depth) l5 _ _ c.in_ok-next.ensures.reads in
    let p = err_from_is_err_and c.from_residual-in_err-rest-4.result c.from_residual-in_err-rest-4.ensures.1 in
    rw (p.1, p.2) (l6.fails c.in_err-rest-4.field-0.0 (c.in_err-rest-4.ensures.reads c.args.depth))

pub returns-clause-reads : goal.returns-clause-reads
returns-clause-reads c =
    let l0 = rule.loop_parts c.args.depth c.args.at in
    let l1 = after_part (rule.loop_1 c.args.depth) l0 _ _ (took_kind (k.mark m.OpenParen) c.args.depth c.requires.low _ _ _ c.in_ok-rest.ensures.reads.1) in
    let l2 = after_part (rule.loop_2 c.args.depth) l1 _ _ c.in_ok-begin.ensures.reads in
    let l3 = after_part (rule.loop_3 c.args.depth) l2 _ _ (took_kind (k.mark m.Semicolon) (c.args.depth + 1) c.in_ok-begin.ensures.shallow _ _ _ c.in_ok-rest-2.ensures.reads.1) in
    let l4 = after_part (rule.loop_4 c.args.depth) l3 _ _ c.in_ok-condition.ensures.reads in
    let l5 = after_part (rule.loop_5 c.args.depth) l4 _ _ (took_kind (k.mark m.Semicolon) (c.args.depth + 1) c.in_ok-begin.ensures.shallow _ _ _ c.in_ok-rest-3.ensures.reads.1) in
    let l6 = after_part (rule.loop_6 c.args.depth) l5 _ _ c.in_ok-next.ensures.reads in
    l6.took _ _ (took_kind (k.mark m.CloseParen) c.args.depth c.requires.low _ _ _ c.in_ok-rest-4.ensures.reads.1)
