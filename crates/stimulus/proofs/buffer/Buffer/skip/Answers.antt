use Rattle.std.proofs.Common.{◌≡◌, ℕ, ◌+◌, ◌-◌, ◌≤◌, List, length, take, drop, sym, ap, ◌∙◌, arith}
use Rattle.std.specs.List.{slice_range}
use Rattle.std.proofs.lemmas.List.{drop-take, drop-drop, length-take}
use Rattle.stimulus.specs.Reader.{Held}
use Rattle.stimulus.proofs.buffer.Buffer.skip.Goals as goal

-- a part of a list without its first elements is a shorter part
skipped : (xs now : List ℕ) (at end count : ℕ) → at ≤ end → slice_range xs at end ≡ now → count ≤ length now
    → slice_range xs (at + count) end ≡ drop count now
skipped xs now at end count order is few =
    let fits : at + count ≤ end = omega (arith, ap length is, length-take (end - at) (drop at xs)) in
    let left = end - (at + count) in
    let size : count + left ≡ end - at = omega arith in
    ap (take left) (sym (drop-drop count at xs)) ∙ sym (drop-take count left (drop at xs)) ∙ ap (λ n. drop count (take n (drop at xs))) size ∙ ap (drop count) is

pub returns-clause-bytes : goal.returns-clause-bytes
returns-clause-bytes c =
    let i = c.self.inside in
    skipped i.bytes.items c.args.self.now.bytes i.at i.end c.args.count (omega (arith, c.self.invariant)) (ap (λ (h : Held). h.bytes) c.self.view_is) c.requires
