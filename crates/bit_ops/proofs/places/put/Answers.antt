use Rattle.std.proofs.Common.{◌∙◌, ap, sym, ℕ, ◌*◌, ◌%◌, ◌^◌, ◌-◌, ◌<◌, bit_and, bit_or, subst}
use Rattle.std.proofs.Math.Nat.{mod-lt}
use Rattle.std.proofs.lemmas.Nat.{pow_pos}
use Rattle.bit_ops.proofs.Inserts.{put_is}
use Rattle.bit_ops.proofs.places.put.Goals as goal

put_value : goal.returns-clause-value
put_value c =
    let v : ℕ = c.args.width in let k : ℕ = c.args.place in
    ap (λ (m : ℕ). bit_or (bit_and c.args.value ((2 ^ 128 - 1) - m * 2 ^ k % 2 ^ 128)) (bit_and c.args.part m * 2 ^ k % 2 ^ 128)) (c.ones-mask.ensures ∙ ap (λ (p : ℕ). 2 ^ p - 1) c.min.ensures)
    ∙ put_is 128 v c.args.value k c.args.count c.args.part c.requires.widths.1 c.requires.fits.0 c.requires.widths.0 c.requires.fits.1

pub returns-clause-value : goal.returns-clause-value
returns-clause-value c = put_value c

pub returns-clause-fits : goal.returns-clause-fits
returns-clause-fits c = subst (λ (k : ℕ). k < 2 ^ c.args.width) (sym (put_value c)) (mod-lt _ (pow_pos c.args.width))
