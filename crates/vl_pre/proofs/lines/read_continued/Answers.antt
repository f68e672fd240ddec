use Rattle.std.proofs.Common.{rules, ◌≡◌, ◌∷◌, [], drop, ap, ◌∙◌, List, ℕ, if◌then◌else◌}
use Rattle.vl_pre.specs.Bytes.{at_line, bytes, begins}
use Rattle.vl_pre.specs.Pieces.{gives, blank}
use Rattle.vl_pre.proofs.LineLaws.{keeps_as, continued_piece}
use Rattle.vl_pre.proofs.lines.read_continued.Goals as goal

pub returns : goal.returns
returns c =
    let next : c.args.at.now ≡ at_line c.in-Some.line c.in-Some.field-0-0 ∷ c.next.new.self = search rules in
    let n = λ (bs : List ℕ). if begins (10 ∷ []) bs then 1 else 2 in
    let left : c.skip.new.at ≡ drop (n (bytes c.next.new.self)) c.next.new.self = c.skip.ensures ∙ ap (λ k. drop k c.next.new.self) (c.line_end_length-length.ensures ∙ ap n c.bytes.ensures) in
    keeps_as c.args.body.now.items c.push.new.body.items c.skip.new.at _ (gives (blank c.in-Some.line) c.skip.new.at) c.push.result
    (continued_piece c.args.continues c.args.at.now c.next.new.self c.skip.new.at (at_line c.in-Some.line c.in-Some.field-0-0) next left) (c.push.ensures c.skip.new.at)
