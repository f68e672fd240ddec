-- Numbers of 64 bits as the machine computes them.
use Rattle.std.proofs.Common.{◌≡◌, ℕ, ◌+◌, ◌-◌, ◌*◌, ◌%◌, ◌^◌, ◌<◌, ◌≤◌, Bool, true, false, cond, bit_and, bit_or, bit_xor, ap, ◌∙◌, arith}
use Rattle.std.proofs.Math.Nat.{mod-eq_of_lt}
use Rattle.std.proofs.Math.Pow.{mod-mod-pow}
use Rattle.std.proofs.lemmas.Nat.{and_mask, and_le_r, xor_lt, or_shifted, one_shl}
use Rattle.std.proofs.lemmas.Nat.Bits.{bit_at_xor, bit_at-zero, bit_at-lt, same_from_bits}
use Rattle.std.specs.Int.{from_bool}
use Rattle.bit_ops.specs.Operators.{add, concat}

xor_twice : (a b : ℕ) → bit_xor a (bit_xor b a) ≡ b
xor_twice a b = same_from_bits (bit_xor a (bit_xor b a)) b (λ i.
    let outer = bit_at_xor a (bit_xor b a) i in let inner = bit_at_xor b a i in
    let x = bit_at-lt a i in let y = bit_at-lt b i in
    omega arith)

xor_none : (a : ℕ) → bit_xor a 0 ≡ a
xor_none a = same_from_bits (bit_xor a 0) a (λ i.
    let outer = bit_at_xor a 0 i in let none = bit_at-zero i in let x = bit_at-lt a i in omega arith)

-- one of two numbers, without a branch
pub picked : (t : Bool) (first second : ℕ) → first < 2 ^ 64 → second < 2 ^ 64
    → bit_xor second (bit_and (bit_xor first second) ((0 + (2 ^ 64 - from_bool t)) % 2 ^ 64)) ≡ cond t first second
picked true first second f g =
    ap (bit_xor second) (and_mask (bit_xor first second) 64 ∙ mod-eq_of_lt (xor_lt 64 first second f g))
    ∙ xor_twice second first
picked false first second f g =
    let none : bit_and (bit_xor first second) 0 ≡ 0 = omega (arith, and_le_r (bit_xor first second) 0) in
    ap (bit_xor second) none ∙ xor_none second

pub summed : (a b w : ℕ) → w ≤ 64 → bit_and ((a + b) % 2 ^ 64) (2 ^ w - 1) ≡ add w a b
summed a b w h =
    let same : 64 ≡ (64 - w) + w = omega arith in
    and_mask ((a + b) % 2 ^ 64) w ∙ ap (λ k. (a + b) % 2 ^ k % 2 ^ w) same ∙ mod-mod-pow (a + b) (64 - w) w

pub joined : (high low w : ℕ) → w < 64 → high * 2 ^ w < 2 ^ 64 → low < 2 ^ w
    → bit_or ((high * ((1 * 2 ^ w) % 2 ^ 64)) % 2 ^ 64) low ≡ concat w high low
joined high low w few fits part =
    ap (λ k. bit_or ((high * k) % 2 ^ 64) low) (one_shl w 64 few) ∙ ap (λ k. bit_or k low) (mod-eq_of_lt fits)
    ∙ or_shifted high w low part
