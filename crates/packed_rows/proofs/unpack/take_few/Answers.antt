use Rattle.std.proofs.Common.{◌≡◌, ◌<◌, ◌+◌, ◌-◌, ◌*◌, ◌/◌, ◌%◌, ◌^◌, ℕ, get_or, refl, ap, ◌∙◌, arith}
use Rattle.packed_rows.proofs.PackLaws.{joined_fits}
use Rattle.packed_rows.proofs.UnpackLaws.{low_in_word, rest_of_word, split_fits, split_left, split_value, word_more}
use Rattle.packed_rows.specs.declared.held.Held.{Held}
use Rattle.packed_rows.proofs.unpack.take_few.Goals as goal

pub returns-then-width-held-clause-held : goal.returns-then-width-held-clause-held
returns-then-width-held-clause-held c =
    let h = c.args.held in
    let s = c.split.result.held in
    (omega arith, split_fits h.bits h.count s.count c.args.width s.bits c.split.ensures.count c.requires.held.1 c.split.ensures.bits)

pub returns-then-width-held-clause-value : goal.returns-then-width-held-clause-value
returns-then-width-held-clause-value c =
    split_value c.args.words.now c.args.held c.args.width c.split.result.value (omega arith) c.split.ensures.value

pub returns-then-width-held-clause-left : goal.returns-then-width-held-clause-left
returns-then-width-held-clause-left c =
    split_left c.args.words.now c.args.held c.split.result.held c.args.width c.split.ensures.bits c.split.ensures.count c.split.ensures.next

pub returns-clause-held : goal.returns-clause-held
returns-clause-held c =
    let h = c.args.held in
    let x : ℕ = get_or c.args.words.now h.next 0 in
    let w : ℕ = c.args.width in
    let count : ℕ = h.count + 64 - w in
    let whole : count + w ≡ h.count + 64 = omega arith in
    let part : h.count + (64 - count) ≡ w = omega arith in
    let fits : x < 2 ^ 64 = omega (arith, c.type_inv.words h.next) in
    let all = joined_fits h.bits x h.count 64 c.requires.held.1 fits in
    let bits = c.high_part.ensures ∙ rest_of_word h.bits x h.count (64 - count) w part c.requires.held.1 in
    (omega arith, split_fits (h.bits + x * 2 ^ h.count) (h.count + 64) count w c.high_part.result whole all bits)

pub returns-clause-value : goal.returns-clause-value
returns-clause-value c =
    let h = c.args.held in
    let x : ℕ = get_or c.args.words.now h.next 0 in
    let w : ℕ = c.args.width in
    let words = c.args.words.now in
    let t : ℕ = h.bits + x * 2 ^ h.count in
    let more : Held = record { bits = t; count = h.count + 64; next = h.next + 1 } in
    split_value words more w c.from.result (omega arith)
    (c.from.ensures ∙ c.lowest.ensures ∙ ap (λ (n : ℕ). n % 2 ^ w) c.low_part.ensures ∙ low_in_word t w c.requires.wide)
    ∙ ap (λ (n : ℕ). n % 2 ^ w) (word_more words h.next h.bits h.count x (omega arith) refl)

pub returns-clause-left : goal.returns-clause-left
returns-clause-left c =
    let h = c.args.held in
    let x : ℕ = get_or c.args.words.now h.next 0 in
    let w : ℕ = c.args.width in
    let words = c.args.words.now in
    let count : ℕ = h.count + 64 - w in
    let whole : count + w ≡ h.count + 64 = omega arith in
    let part : h.count + (64 - count) ≡ w = omega arith in
    let more : Held = record { bits = h.bits + x * 2 ^ h.count; count = h.count + 64; next = h.next + 1 } in
    let rest : Held = record { bits = c.high_part.result; count = count; next = h.next + 1 } in
    split_left words more rest w
    (c.high_part.ensures ∙ rest_of_word h.bits x h.count (64 - count) w part c.requires.held.1) whole refl
    ∙ ap (λ (n : ℕ). n / 2 ^ w) (word_more words h.next h.bits h.count x (omega arith) refl)
