use Rattle.std.proofs.Common.{◌∙◌, ap, sym, ℕ, ◌%◌, ◌^◌, pos, unsigned_abs, w64}
use Rattle.std.specs.Prelude.{int_lt}
use Rattle.std.proofs.lemmas.Int.{to_z-of_z}
use Rattle.bit_ops.proofs.Shifted.{place_below, place_from_zero, select_left, select_right}
use Rattle.bit_ops.proofs.places.selected.Goals as goal

pub returns-then-place-lt0-clause-value : goal.returns-then-place-lt0-clause-value
returns-then-place-lt0-clause-value c =
    let w : ℕ = c.args.width in let z = c.args.place in let d : ℕ = c.from-distance.result in
    let same = to_z-of_z w64 z c.ranges.place in
    let below = place_below z d (sym (ap (λ x. int_lt x (pos 0)) same) ∙ c.if-place-lt0.true) (c.from-distance.ensures ∙ c.unsigned_abs.ensures.value ∙ ap unsigned_abs same) in
    c.cut.ensures.value ∙ ap (λ (k : ℕ). k % 2 ^ w) c.left.ensures ∙ select_left 128 w c.args.value d z c.requires.1 below.0 below.1

pub returns-else-place-lt0-clause-value : goal.returns-else-place-lt0-clause-value
returns-else-place-lt0-clause-value c =
    let w : ℕ = c.args.width in let z = c.args.place in let d : ℕ = c.from-distance.result in
    let same = to_z-of_z w64 z c.ranges.place in
    let above = place_from_zero z d (sym (ap (λ x. int_lt x (pos 0)) same) ∙ c.if-place-lt0.false) (c.from-distance.ensures ∙ c.unsigned_abs.ensures.value ∙ ap unsigned_abs same) in
    c.cut-else-place-lt0.ensures.value ∙ ap (λ (k : ℕ). k % 2 ^ w) c.right.ensures ∙ select_right 128 w c.args.value d z c.ranges.value.fits above
