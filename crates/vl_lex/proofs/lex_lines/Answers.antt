use Rattle.std.proofs.Common.{rules, ◌∙◌, ap, sym, drop, get_or}
use Rattle.std.proofs.lemmas.Result.{err_from_is_err_and}
use Rattle.std.proofs.Math.ListN.{drop_of_length-le}
use Rattle.vl_pre.specs.Bytes.{joined}
use Rattle.vl_lex.proofs.LoopLaws.{next_read, next_fails, all_read, ends_within, bytes_joined, lines_joined, joined_length}
use Rattle.vl_lex.proofs.lex_lines.Goals as goal

pub loop-at-preserved : goal.loop-at-preserved
loop-at-preserved c =
    let bs = c.args.bytes.now in
    let ls = c.args.lines.now in
    let n = joined_length bs ls c.requires in
    let b = c.split_at.ensures.back ∙ ap (drop c.loop-at.at) (sym (bytes_joined bs ls c.requires)) in
    let l = ap (λ x. get_or x c.loop-at.at 0) (sym (lines_joined bs ls c.requires)) in
    let r = next_read (joined bs ls) c.loop-at.tokens.items c.step.new.tokens.items c.loop-at.at _ _ (rw n (search rules)) l b (c.loop-at.invariant.so_far, c.loop-at.invariant.few)
    c.in_ok-at.field-0 c.in_ok-at.ensures.used.0 c.in_ok-at.ensures.steps in
    let w = ends_within (joined bs ls) c.loop-at.at c.in_ok-at.field-0 _ b c.in_ok-at.ensures.used.1 (rw n c.loop-at.invariant.within) in
    record { so_far = r.0; few = r.1; within = rw n at w }

pub returns-in_err-at-clause-fault : goal.returns-in_err-at-clause-fault
returns-in_err-at-clause-fault c =
    let bs = c.args.bytes.now in
    let ls = c.args.lines.now in
    let n = joined_length bs ls c.requires in
    let p = err_from_is_err_and c.from_residual.result c.from_residual.ensures.1 in
    let b = c.split_at.ensures.back ∙ ap (drop c.loop-at.at) (sym (bytes_joined bs ls c.requires)) in
    let l = ap (λ x. get_or x c.loop-at.at 0) (sym (lines_joined bs ls c.requires)) in
    rw (p.1, p.2) (next_fails (joined bs ls) c.loop-at.tokens.items c.step.new.tokens.items c.loop-at.at _ _ (rw n (search rules)) l b (c.loop-at.invariant.so_far, c.loop-at.invariant.few)
    c.in_err-at.field-0.0 c.in_err-at.ensures.steps)

pub returns-clause-tokens : goal.returns-clause-tokens
returns-clause-tokens c =
    let bs = c.args.bytes.now in
    let ls = c.args.lines.now in
    let n = joined_length bs ls c.requires in
    let e = drop_of_length-le (joined bs ls) {i = c.loop-at.at} (rw n (search rules)) in
    all_read (joined bs ls) _ c.loop-at.tokens.items e c.loop-at.invariant.few c.loop-at.invariant.so_far
