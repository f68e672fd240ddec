-- The number of ones.
use Rattle.std.proofs.Common.{◌≡◌, ℕ, zero, suc, ◌+◌, ◌*◌, ◌/◌, ◌%◌, ◌^◌, ◌<◌, ◌≤◌, ap, ◌∙◌, arith}
use Rattle.std.proofs.Math.Nat.{pow-suc}
use Rattle.std.proofs.lemmas.Nat.{ones_le_self}
use Rattle.std.specs.Int.Count.{ones as all_ones_of, ones_step}
use Rattle.bit_ops.specs.Operators.{ones}

pub counted : (w n : ℕ) → n < 2 ^ w → all_ones_of n ≡ ones w n
counted zero n h = let few : all_ones_of n ≤ n = ones_le_self n in omega (arith, few)
counted (suc w) n h =
    let twice : 2 ^ suc w ≡ 2 ^ w * 2 = pow-suc 2 w in
    ones_step n ∙ ap (λ k. n % 2 + k) (counted w (n / 2) (omega (arith, twice)))
