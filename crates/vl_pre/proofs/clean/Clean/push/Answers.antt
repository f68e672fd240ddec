use Rattle.std.proofs.Common.{rules, arith, ◌≡◌, ◌∷◌, [], ◌++◌, length, refl, ap, ◌∙◌, length-append}
use Rattle.vl_pre.specs.Bytes.{Text, at_line, joined}
use Rattle.vl_pre.specs.Pieces.{gives}
use Rattle.vl_pre.proofs.CleanLaws.{length-joined, joined_push}
use Rattle.vl_pre.proofs.WriteLaws.{ends_full}
use Rattle.vl_pre.proofs.clean.Clean.push.Goals as goal

pub returns-then-len : goal.returns-then-len
returns-then-len c rest =
    let n = length-joined c.self.inside.bytes.items c.self.inside.lines.items c.self.invariant.paired in
    let view = ap length c.self.view_is in
    rw c.in_text.ensures (ends_full c.args.self.now (at_line c.args.line c.args.byte) (gives [] rest) (omega (arith, n, view)))

pub returns : goal.returns
returns c rest =
    let bs = c.self.inside.bytes.items in
    let ls = c.self.inside.lines.items in
    let here = at_line c.args.line c.args.byte ∷ [] in
    let more_bytes : c.push.new.self.items ≡ bs ++ c.args.byte ∷ [] = search rules in
    let more_lines : c.push-2.new.self.items ≡ ls ++ c.args.line ∷ [] = search rules in
    let all : joined c.push.new.self.items c.push-2.new.self.items ≡ c.args.self.now ++ here =
    (λ i. joined (more_bytes i) (more_lines i)) ∙ joined_push bs ls c.args.byte c.args.line c.self.invariant.paired ∙ ap (λ (x : Text). x ++ here) c.self.view_is in
    let counted = ap length all in
    let view = ap length c.self.view_is in
    let old = length-joined bs ls c.self.invariant.paired in
    let one_more = length-append c.args.self.now here in
    record { sound = refl; all = all; fits = omega (arith, counted, view, old, one_more); left = refl }
