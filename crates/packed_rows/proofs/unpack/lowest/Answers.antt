use Rattle.std.proofs.Common.{◌≡◌, ◌≤◌, ℕ, ◌-◌, ◌^◌, bit_and, ◌∙◌, ap, arith}
use Rattle.std.proofs.lemmas.Nat.{and_mask}
use Rattle.std.proofs.lemmas.Nat.Bits.{ones_shr}
use Rattle.packed_rows.proofs.unpack.lowest.Goals as goal

pub returns : goal.returns
returns c =
    let k : ℕ = c.args.count in
    let within : 64 - k ≤ 64 = omega arith in
    let same : 64 - (64 - k) ≡ k = omega (arith, c.requires) in
    ap (λ (m : ℕ). bit_and c.args.word m) (ones_shr 64 (64 - k) within ∙ ap (λ (j : ℕ). 2 ^ j - 1) same)
    ∙ and_mask c.args.word k
