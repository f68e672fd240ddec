use Rattle.std.proofs.Common.{◌≡◌, ◌∙◌, sym, ap, subst, false, ℤ, ◌%◌, ◌≤◌, ◌<◌, ◌^◌, unsigned_abs, arith}
use Rattle.std.proofs.Math.Nat.{mod-le}
use Rattle.std.proofs.lemmas.Bool.{ne_eqb}
use Rattle.bit_ops.specs.Operators.{integer}
use Rattle.bit_ops.specs.Reading.{is_negative}
use Rattle.bit_ops.proofs.Division.{unsigned_remainder, sign_of_first}
use Rattle.bit_ops.proofs.arithmetic.remainder.Goals as goal

pub returns-else-is_negative-clause-value : goal.returns-else-is_negative-clause-value
returns-else-is_negative-clause-value c =
    let x : ℤ = integer c.args.signed c.args.width c.args.a in
    let y : ℤ = integer c.args.signed c.args.width c.args.b in
    let is : c.rest_of-rest.result ≡ unsigned_abs x % unsigned_abs y = c.rest_of-rest.ensures ∙ ap (λ k. k % c.magnitude-2.result) c.magnitude.ensures.value ∙ ap (λ k. unsigned_abs x % k) c.magnitude-2.ensures.value in
    let low : is_negative x ≡ false = sym c.is_negative.ensures ∙ c.if-is_negative.false in
    let less : c.magnitude.result % c.magnitude-2.result ≤ c.magnitude.result = mod-le c.magnitude.result c.magnitude-2.result in
    let fits : unsigned_abs x % unsigned_abs y < 2 ^ c.args.width = subst (λ k. k < 2 ^ c.args.width) is (omega (arith, less, c.rest_of-rest.ensures, c.magnitude.ensures.fits)) in
    rw (ne_eqb c.args.b 0 c.if-b-eq0.false) (is ∙ sym (sign_of_first c.args.width x y low fits))

pub returns-then-not-signed-clause-value : goal.returns-then-not-signed-clause-value
returns-then-not-signed-clause-value c =
    c.rest_of.ensures ∙ unsigned_remainder c.args.signed c.args.width c.args.a c.args.b c.if-not-signed.true c.requires.fits.0 c.if-b-eq0.false
