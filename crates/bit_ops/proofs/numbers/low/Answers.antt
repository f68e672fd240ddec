use Rattle.std.proofs.Common.{◌≡◌, ℕ, ◌*◌, ◌-◌, ◌%◌, ◌^◌, ◌<◌, bit_and, ◌∙◌, ap, arith}
use Rattle.std.proofs.Math.Nat.{mod-eq_of_lt}
use Rattle.std.proofs.Math.Pow.{pow-lt}
use Rattle.std.proofs.lemmas.Nat.{and_mask}
use Rattle.bit_ops.proofs.numbers.low.Goals as goal

pub returns-else-width-eq-MAX_WIDTH : goal.returns-else-width-eq-MAX_WIDTH
returns-else-width-eq-MAX_WIDTH c =
    let w : ℕ = c.args.width in let v : ℕ = c.args.value in
    let short : w < 128 = omega (arith, c.requires, c.if-width-eq-MAX_WIDTH.false) in
    let one : 1 * 2 ^ w ≡ 2 ^ w = omega arith in
    let fits : 2 ^ w < 2 ^ 128 = pow-lt short in
    ap (λ (m : ℕ). bit_and v (m - 1)) (ap (λ (m : ℕ). m % 2 ^ 128) one ∙ mod-eq_of_lt fits) ∙ and_mask v w
