use Rattle.std.proofs.Common.{◌+◌, ◌-◌, ◌*◌, ◌^◌, ◌<◌, ◌≤◌, ℕ, length, take, set, refl, sym, ap, ap₂, subst, ◌∙◌, arith}
use Rattle.packed_rows.specs.Packed.{number}
use Rattle.packed_rows.proofs.PackLaws.{high_of_word, put_held, put_rest, put_word}
use Rattle.packed_rows.proofs.pack.put_few.Goals as goal

pub returns-then-count-lt64-clause-written : goal.returns-then-count-lt64-clause-written
returns-then-count-lt64-clause-written c =
    let h = c.args.held in
    ap (λ (n : ℕ). number (take n c.args.words.now) + 2 ^ (64 * n) * c.hold.result.bits) c.hold.ensures.next
    ∙ put_held c.args.words.now h c.hold.result.bits c.args.value c.hold.ensures.bits

pub returns-clause-held : goal.returns-clause-held
returns-clause-held c =
    let h = c.args.held in
    let v = c.args.value in
    let high = c.high_part.ensures ∙ high_of_word h.bits v h.count c.requires.held.0 c.requires.held.1 in
    let more : 64 ≤ h.count + c.args.width = omega arith in
    let less = put_rest h.bits v h.count c.args.width c.requires.held.1 c.requires.fits more in
    (omega arith, subst (λ (t : ℕ). t < 2 ^ (h.count + c.args.width - 64)) (sym high) less)

pub returns-clause-written : goal.returns-clause-written
returns-clause-written c =
    let h = c.args.held in
    let v = c.args.value in
    let words = c.args.words.now in
    let t = h.bits + v * 2 ^ h.count in
    let high = c.high_part.ensures ∙ high_of_word h.bits v h.count c.requires.held.0 c.requires.held.1 in
    let less : h.next < length words = omega arith in
    ap₂ (λ (x y : ℕ). number (take (h.next + 1) (set words h.next x)) + 2 ^ (64 * (h.next + 1)) * y) c.low_part.ensures high
    ∙ put_word words h t v refl less
