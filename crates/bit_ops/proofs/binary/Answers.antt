use Rattle.std.proofs.Common.{◌≡◌, ◌^◌, ◌<◌, ℕ, ap, sym, subst, ◌∙◌, refl, true, bit_or}
use Rattle.std.proofs.lemmas.Nat.{xor_lt, or_lt}
use Rattle.std.specs.Int.Bits.{bit_xor}
use Rattle.bit_ops.specs.Applied.{takes_one_width}
use Rattle.bit_ops.specs.declared.operator.Binary.{Binary}
use Rattle.bit_ops.specs.declared.operator.Binary.TheVariants as two
use Rattle.bit_ops.proofs.binary.Goals as goal

-- an operator whose operands have one width
one_width : (op known : Binary) → op ≡ known → takes_one_width known ≡ true → takes_one_width op ≡ true
one_width op known e h = ap takes_one_width e ∙ h

-- of two numbers of one width, as three calls gave them
xor_fits : (w v a b width x y : ℕ) → w ≡ v → a < 2 ^ w → b < 2 ^ v → width ≡ w → x ≡ a → y ≡ b → bit_xor x y < 2 ^ width
xor_fits w v a b width x y same f g e p q = rw (e, p, q) (xor_lt w a b f (subst (λ k. b < 2 ^ k) (sym same) g))

or_fits : (w v a b width x y : ℕ) → w ≡ v → a < 2 ^ w → b < 2 ^ v → width ≡ w → x ≡ a → y ≡ b → bit_or x y < 2 ^ width
or_fits w v a b width x y same f g e p q = rw (e, p, q) (or_lt w a b f (subst (λ k. b < 2 ^ k) (sym same) g))

pub of-requires-in-Xor-clause-fits : goal.of-requires-in-Xor-clause-fits
of-requires-in-Xor-clause-fits c =
    let a = c.args.a in let b = c.args.b in
    xor_fits a.width b.width a.value b.value c.width-width.result c.value-x.result c.value-y.result (c.requires (one_width c.args.op two.Xor c.in-Xor.is refl)) a.fits b.fits c.width-width.ensures c.value-x.ensures c.value-y.ensures

pub turned-requires-clause-fits : goal.turned-requires-clause-fits
turned-requires-clause-fits c =
    let a = c.args.a in let b = c.args.b in
    xor_fits a.width b.width a.value b.value c.width-width.result c.value-x.result c.value-y.result (c.requires (one_width c.args.op two.Xnor c.in-Xnor.is refl)) a.fits b.fits c.width-width.ensures c.value-x.ensures c.value-y.ensures

pub of-requires-in-Or-clause-fits : goal.of-requires-in-Or-clause-fits
of-requires-in-Or-clause-fits c =
    let a = c.args.a in let b = c.args.b in
    or_fits a.width b.width a.value b.value c.width-width.result c.value-x.result c.value-y.result (c.requires (one_width c.args.op two.Or c.in-Or.is refl)) a.fits b.fits c.width-width.ensures c.value-x.ensures c.value-y.ensures
