use Rattle.std.proofs.Common.{◌≡◌, ap, ◌∙◌}
use Rattle.vl_pre.specs.declared.pieces.First.TheVariants.{LineComment, BlockComment}
use Rattle.vl_pre.specs.Pieces.{inside, gives, blank}
use Rattle.vl_pre.specs.Calls.Views.{head_of}
use Rattle.vl_pre.specs.Calls.Reading.{piece_in_line}
use Rattle.vl_pre.proofs.LineLaws.{keeps_as, same_piece, block_blank}
use Rattle.vl_pre.proofs.lines.read_piece.Goals as goal

pub returns-in_ok-line-in-BlockComment : goal.returns-in_ok-line-in-BlockComment
returns-in_ok-line-in-BlockComment c =
    let passed = c.in_ok-line-in-BlockComment.ensures in
    keeps_as c.args.body.now.items c.push.new.body.items c.skip_block.new.at _ (gives (blank c.in_ok-line-in-BlockComment.line) c.skip_block.new.at) c.push.result
    (ap (λ f. piece_in_line (inside (head_of f)) c.args.continues c.args.at.now) c.in-BlockComment.is ∙ same_piece c.args.continues BlockComment c.args.at.now (λ (e : BlockComment ≡ LineComment). cc)
    ∙ block_blank c.args.continues c.args.at.now c.skip_block.new.at c.in_ok-line-in-BlockComment.line c.requires passed.0 passed.1)
    (c.push.ensures c.skip_block.new.at)
