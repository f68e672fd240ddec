use Rattle.std.proofs.Common.{◌≡◌, ◌≤◌, ℕ, ◌-◌, ◌^◌, ◌∙◌, ap, arith}
use Rattle.std.proofs.lemmas.Nat.Bits.{ones_shr}
use Rattle.step_program.proofs.forms.ones.Goals as goal

pub returns : goal.returns
returns c =
    let w : ℕ = c.args.width in
    let within : 64 - w ≤ 64 = omega arith in
    let same : 64 - (64 - w) ≡ w = omega (arith, c.requires) in
    ones_shr 64 (64 - w) within ∙ ap (λ (k : ℕ). 2 ^ k - 1) same
