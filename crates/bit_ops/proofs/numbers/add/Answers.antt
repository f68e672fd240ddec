use Rattle.std.proofs.Common.{◌≡◌, ℕ, ◌+◌, ◌-◌, ◌%◌, ◌^◌, ◌∙◌, sym, ap, arith}
use Rattle.std.proofs.Math.Pow.{mod-mod-pow}
use Rattle.bit_ops.proofs.numbers.add.Goals as goal

pub returns : goal.returns
returns c =
    let w : ℕ = c.args.width in let n : ℕ = c.args.left + c.args.right in
    let whole : (128 - w) + w ≡ 128 = omega (arith, c.requires) in
    c.low.ensures ∙ ap (λ (k : ℕ). n % 2 ^ k % 2 ^ w) (sym whole) ∙ mod-mod-pow n (128 - w) w
