use Rattle.std.proofs.Common.{◌≡◌, ap, ◌∙◌}
use Rattle.vl_pre.specs.Bytes.{bytes}
use Rattle.vl_pre.specs.Pieces.{in_line}
use Rattle.vl_pre.specs.Calls.Reading.{piece_in_line}
use Rattle.vl_pre.specs.Calls.Views.{in_line_of}
use Rattle.vl_pre.proofs.LineLaws.{keeps_as, next_piece}
use Rattle.vl_pre.proofs.lines.read_next.Goals as goal

pub returns-in-Inside : goal.returns-in-Inside
returns-in-Inside c =
    let here : in_line_of c.in_line.result ≡ in_line c.args.continues (bytes c.args.at.now) = c.in_line.ensures ∙ ap (in_line c.args.continues) c.bytes.ensures in
    keeps_as c.args.body.now.items c.read_piece.new.body.items c.read_piece.new.at _ _ c.read_piece.result
    (next_piece c.args.continues c.args.at.now c.in_line.result here ∙ ap (λ i. piece_in_line (in_line_of i) c.args.continues c.args.at.now) c.in-Inside.is) c.read_piece.ensures
