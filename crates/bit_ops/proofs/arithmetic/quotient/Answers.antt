use Rattle.std.proofs.Common.{◌≡◌, ◌∙◌, sym, ap, subst, ℤ, ◌/◌, ◌≤◌, ◌<◌, ◌^◌, unsigned_abs, arith}
use Rattle.std.proofs.Math.Nat.{div-le_self}
use Rattle.std.proofs.lemmas.Bool.{ne_eqb}
use Rattle.bit_ops.specs.Operators.{integer}
use Rattle.bit_ops.specs.Reading.{is_negative}
use Rattle.bit_ops.proofs.Division.{unsigned_quotient, same_signs, same_from_beq}
use Rattle.bit_ops.proofs.arithmetic.quotient.Goals as goal

pub returns-then-is_negative-clause-value : goal.returns-then-is_negative-clause-value
returns-then-is_negative-clause-value c =
    let x : ℤ = integer c.args.signed c.args.width c.args.a in
    let y : ℤ = integer c.args.signed c.args.width c.args.b in
    let is : c.divided-size.result ≡ unsigned_abs x / unsigned_abs y = c.divided-size.ensures ∙ ap (λ k. k / c.magnitude-2.result) c.magnitude.ensures.value ∙ ap (λ k. unsigned_abs x / k) c.magnitude-2.ensures.value in
    let same : is_negative x ≡ is_negative y = sym c.is_negative.ensures ∙ same_from_beq c.is_negative.result c.is_negative-2.result c.if-is_negative.true ∙ c.is_negative-2.ensures in
    let less : c.magnitude.result / c.magnitude-2.result ≤ c.magnitude.result = div-le_self c.magnitude.result c.magnitude-2.result in
    let fits : unsigned_abs x / unsigned_abs y < 2 ^ c.args.width = subst (λ k. k < 2 ^ c.args.width) is (omega (arith, less, c.divided-size.ensures, c.magnitude.ensures.fits)) in
    rw (ne_eqb c.args.b 0 c.if-b-eq0.false) (is ∙ sym (same_signs c.args.width x y same fits))

pub returns-then-not-signed-clause-value : goal.returns-then-not-signed-clause-value
returns-then-not-signed-clause-value c =
    c.divided.ensures ∙ unsigned_quotient c.args.signed c.args.width c.args.a c.args.b c.if-not-signed.true c.requires.fits.0 c.if-b-eq0.false
