use Rattle.std.proofs.Common.{◌≡◌, rules, true, sym, ap, ◌∙◌}
use Rattle.vl_pre.specs.Bytes.{bytes}
use Rattle.vl_pre.specs.Pieces.{stops_line}
use Rattle.vl_pre.proofs.CursorLaws.{stop_here}
use Rattle.vl_pre.proofs.cursor.skip_line.Goals as goal

pub returns : goal.returns
returns c =
    let stopped : c.stops_line.result ≡ true = search rules in
    let h : stops_line c.args.continues (bytes c.loop-at.at) ≡ true = ap (stops_line c.args.continues) (sym c.bytes.ensures) ∙ sym c.stops_line.ensures ∙ stopped in
    sym (stop_here c.args.continues c.loop-at.at h) ∙ c.loop-at.invariant
