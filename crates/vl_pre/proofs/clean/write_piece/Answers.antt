use Rattle.std.proofs.Common.{rules, ◌≡◌, ◌<◌, ◌≤◌, ◌∷◌, false, length, ap, ◌∙◌}
use Rattle.std.specs.Prelude.{Option, Some, None}
use Rattle.std.proofs.lemmas.Result.{err_from_is_err_and}
use Rattle.vl_pre.specs.Bytes.{Text, at_line, most_clean}
use Rattle.vl_pre.specs.Pieces.{block_comment, Part, Fault, gives, stops, blank, after_block}
use Rattle.vl_pre.specs.Calls.Views.{head_of}
use Rattle.vl_pre.specs.Calls.Reading.{HasFault, EndsWith, piece_at, fault_of}
use Rattle.vl_pre.proofs.LineLaws.{line_comment_blank, block_blank, block_open}
use Rattle.vl_pre.proofs.WriteLaws.{writes_as, ends_at_once}
use Rattle.vl_pre.proofs.clean.write_piece.Goals as goal

block_ends : (o : Option Fault) (old ts : Text) → 0 < length ts → length old ≤ most_clean → HasFault (after_block ts) o → EndsWith old (piece_at false block_comment ts) o
block_ends None old ts some room h = tt
block_ends (Some f) old ts some room h =
    let stopped : piece_at false block_comment ts ≡ stops f = block_open false ts f some h in
    ends_at_once old (piece_at false block_comment ts) f room (ap (λ (x : Part). x.given) stopped) (ap (λ (x : Part). x.fault) stopped)

pub returns-in_err-line-in-BlockComment : goal.returns-in_err-line-in-BlockComment
returns-in_err-line-in-BlockComment c =
    let p = err_from_is_err_and c.from_residual.result c.from_residual.ensures.1 in
    rw (p.1, p.2) (rw c.in-BlockComment.is (block_ends (fault_of c.in_err-line-in-BlockComment.field-0.0) c.args.out.now c.args.at.now c.requires.some c.requires.room c.in_err-line-in-BlockComment.ensures))

pub returns-in-Some : goal.returns-in-Some
returns-in-Some c =
    let next : c.args.at.now ≡ at_line c.in-Some.line c.in-Some.field-0-0 ∷ c.next.new.self = search rules in
    writes_as c.args.out.now c.push.new.self c.skip_line.new.at _ (gives (blank c.in-Some.line) c.skip_line.new.at) c.push.result
    (ap (λ f. piece_at false (head_of f) c.args.at.now) c.in-LineComment.is
    ∙ line_comment_blank false c.args.at.now c.next.new.self c.skip_line.new.at (at_line c.in-Some.line c.in-Some.field-0-0) next c.skip_line.ensures)
    (c.push.ensures c.skip_line.new.at)

pub returns-in_ok-line-in-BlockComment : goal.returns-in_ok-line-in-BlockComment
returns-in_ok-line-in-BlockComment c =
    let passed = c.in_ok-line-in-BlockComment.ensures in
    writes_as c.args.out.now c.push-in-BlockComment.new.self c.skip_block.new.at _ (gives (blank c.in_ok-line-in-BlockComment.line) c.skip_block.new.at) c.push-in-BlockComment.result
    (ap (λ f. piece_at false (head_of f) c.args.at.now) c.in-BlockComment.is
    ∙ block_blank false c.args.at.now c.skip_block.new.at c.in_ok-line-in-BlockComment.line c.requires.some passed.0 passed.1)
    (c.push-in-BlockComment.ensures c.skip_block.new.at)
