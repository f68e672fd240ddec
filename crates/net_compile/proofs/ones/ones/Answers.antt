use Rattle.std.proofs.Common.{◌≡◌, ◌≤◌, ℕ, ◌-◌, ◌^◌, ◌∙◌, ap, arith}
use Rattle.std.proofs.lemmas.Nat.Bits.{ones_shr}
use Rattle.net_compile.proofs.ones.ones.Goals as goal

pub returns : goal.returns
returns c =
    let w : ℕ = c.args.width in
    let within : 128 - w ≤ 128 = omega arith in
    let same : 128 - (128 - w) ≡ w = omega (arith, c.requires) in
    ones_shr 128 (128 - w) within ∙ ap (λ (k : ℕ). 2 ^ k - 1) same
