use Rattle.std.proofs.Common.{◌≡◌, ◌∙◌, ap, sym, subst, ℕ, suc, ◌+◌, ◌-◌, ◌/◌, ◌^◌, ◌<◌, ◌≤◌, ℤ, pos, unsigned_abs, to_z, of_z, w64, arith}
use Rattle.std.specs.Prelude.{int_lt}
use Rattle.std.proofs.lemmas.Int.{to_z-of_z}
use Rattle.std.proofs.lemmas.Nat.{shr_below}
use Rattle.bit_ops.specs.Operators.{insert}
use Rattle.bit_ops.proofs.Inserts.{outside_above, outside_below}
use Rattle.bit_ops.proofs.Shifted.{place_below, place_from_zero}
use Rattle.bit_ops.proofs.places.inserted.Goals as goal

pub put-requires-clause-fits : goal.put-requires-clause-fits
put-requires-clause-fits c =
    let d : ℕ = c.unsigned_abs-distance.result in
    let whole : c.args.count ≡ (c.args.count - d) + d = omega arith in
    (c.requires.fits.0, shr_below c.args.part (c.args.count - d) d (subst (λ (k : ℕ). c.args.part < 2 ^ k) whole c.requires.fits.1))

pub returns-else-distance-from-clause-value : goal.returns-else-distance-from-clause-value
returns-else-distance-from-clause-value c =
    let z : ℤ = c.args.place in let d : ℕ = c.unsigned_abs-distance.result in
    let same : to_z w64 (of_z w64 z) ≡ z = to_z-of_z w64 z c.ranges.place in
    let below = place_below z d (sym (ap (λ x. int_lt x (pos 0)) same) ∙ c.if-place-lt0.true) (c.unsigned_abs-distance.ensures.value ∙ ap unsigned_abs same) in
    let far : c.args.count ≤ d = omega (arith, c.if-distance-from.false, c.from.ensures) in
    let none : c.args.count - suc (d - 1) ≡ 0 = omega arith in
    outside_below c.args.width c.args.value (c.args.part / 2 ^ suc (d - 1)) (c.args.count - suc (d - 1)) c.requires.fits.0 none
    ∙ sym (ap (λ x. insert c.args.width x c.args.count c.args.part c.args.value) below.0)

pub returns-else-distance-from-2-clause-value : goal.returns-else-distance-from-2-clause-value
returns-else-distance-from-2-clause-value c =
    let z : ℤ = c.args.place in let d : ℕ = c.unsigned_abs-distance.result in
    let same : to_z w64 (of_z w64 z) ≡ z = to_z-of_z w64 z c.ranges.place in
    let above : z ≡ pos d = place_from_zero z d (sym (ap (λ x. int_lt x (pos 0)) same) ∙ c.if-place-lt0.false) (c.unsigned_abs-distance.ensures.value ∙ ap unsigned_abs same) in
    let far : c.args.width ≤ d = omega (arith, c.if-distance-from-2.false, c.from-else-place-lt0.ensures) in
    outside_above c.args.width c.args.value d c.args.count c.args.part c.requires.fits.0 far ∙ sym (ap (λ x. insert c.args.width x c.args.count c.args.part c.args.value) above)
