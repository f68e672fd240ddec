-- What a number stands for, by its sign.
use Rattle.std.proofs.Common.{◌≡◌, ℕ, suc, ◌+◌, ◌-◌, ◌*◌, ◌/◌, ◌%◌, ◌^◌, ◌<◌, ◌≤◌, Bool, true, false, nat_eq, pos, negsuc, refl, sym, ap, ◌∙◌, inl, inr, arith}
use Rattle.std.specs.Prelude.{not}
use Rattle.std.proofs.Math.Nat.{mod-eq_of_lt, pow-suc, div-eq_of_lt}
use Rattle.std.proofs.lemmas.Bool.{le-leb, lt-leb, cases_lt, eq-eqb, ne_eqb}
use Rattle.std.proofs.lemmas.Nat.{one_shl, pow_pos, le-div, xor_block, xor_comm}
use Rattle.std.specs.Int.Bits.{bit_xor}
use Rattle.std.specs.Int.{from_bool}
use Rattle.bit_ops.specs.Operators.{bit, extend, integer}
use Rattle.bit_ops.specs.Reading.{is_negative, rank}
use Rattle.bit_ops.proofs.Residues.{below_zero}

-- ---- the sign bit

pub twice_half : (w : ℕ) → 1 ≤ w → 2 * 2 ^ (w - 1) ≡ 2 ^ w
twice_half w one =
    let whole : suc (w - 1) ≡ w = omega arith in
    let twice : 2 ^ suc (w - 1) ≡ 2 ^ (w - 1) * 2 = pow-suc 2 (w - 1) in
    let named : 2 ^ suc (w - 1) ≡ 2 ^ w = ap (λ (k : ℕ). 2 ^ k) whole in
    omega (arith, twice, named)

-- the sign bit of a number of this width, as the machine shifts it
pub sign_bit : (v : ℕ) → 1 ≤ v → v ≤ 128 → 2 * (1 * 2 ^ (v - 1) % 2 ^ 128) ≡ 2 ^ v
sign_bit v one most =
    let short : v - 1 < 128 = omega arith in
    ap (λ k. 2 * k) (one_shl (v - 1) 128 short) ∙ twice_half v one

-- what a number stands for: itself, or where its sign bit is 1 and it is signed, as much below 0 as it is below the next power
pub integer_low : (s : Bool) (w n : ℕ) → 2 * n < 2 ^ w → integer s w n ≡ pos n
integer_low false w n h = refl
integer_low true w n h = rw (lt-leb (2 ^ w) (2 * n) h) refl

pub integer_high : (w n : ℕ) → n < 2 ^ w → 2 ^ w ≤ 2 * n → integer true w n ≡ negsuc (2 ^ w - (n + 1))
integer_high w n fits h = rw (le-leb (2 ^ w) (2 * n) h) (below_zero n (2 ^ w) fits)

pub sign_test : (w n : ℕ) → 1 ≤ w → n < 2 ^ w → not (nat_eq (n / 2 ^ (w - 1)) 0) ≡ is_negative (integer true w n)
sign_test w n one fits =
    let half : 2 * 2 ^ (w - 1) ≡ 2 ^ w = twice_half w one in
    elim (cases_lt (2 * n) (2 ^ w)) [
      | inl low ↦
          let less : n < 2 ^ (w - 1) = omega (arith, half, low) in
          ap (λ b. not b) (eq-eqb (n / 2 ^ (w - 1)) 0 (div-eq_of_lt less)) ∙ sym (ap is_negative (integer_low true w n low))
      | inr high ↦
          let more : 1 * 2 ^ (w - 1) ≤ n = omega (arith, half, high) in
          let some : 1 ≤ n / 2 ^ (w - 1) = le-div 1 n (2 ^ (w - 1)) (pow_pos (w - 1)) more in
          ap (λ b. not b) (ne_eqb (n / 2 ^ (w - 1)) 0 (λ e. omega (arith, e, some))) ∙ sym (ap is_negative (integer_high w n fits high))
    ]

-- ---- extension

-- without a sign the number is kept
pub kept_unsigned : (v w n : ℕ) → n < 2 ^ w → extend false v w n ≡ n
kept_unsigned v w n h = mod-eq_of_lt h

-- where the sign bit is 0 the number is kept
pub kept_signed : (v w n : ℕ) → 2 * n < 2 ^ v → n < 2 ^ w → extend true v w n ≡ n
kept_signed v w n low h = rw (lt-leb (2 ^ v) (2 * n) low) (mod-eq_of_lt h)

-- where it is 1, all higher bits are 1
pub extended_by_ones : (v w n : ℕ) → n < 2 ^ v → 2 ^ v ≤ 2 * n → 2 ^ v ≤ 2 ^ w → extend true v w n ≡ n + (2 ^ w - 2 ^ v)
extended_by_ones v w n fits high wide =
    let m : 2 ^ v - (n + 1) < 2 ^ w = omega arith in
    rw (le-leb (2 ^ v) (2 * n) high, below_zero n (2 ^ v) fits, mod-eq_of_lt m) (omega arith)

-- ---- the order of signed numbers

xor_zero : (n : ℕ) → bit_xor n 0 ≡ n
xor_zero n = xor_comm n 0

-- a bit above all others is put in, or taken away
xor_above : (k n : ℕ) → n < 2 ^ k → bit_xor n (2 ^ k) ≡ n + 2 ^ k
xor_above k n h =
    let some : 0 < 2 ^ k = pow_pos k in
    let first : n ≡ 0 * 2 ^ k + n = omega arith in
    let second : 2 ^ k ≡ 1 * 2 ^ k + 0 = omega arith in
    ap (λ i. bit_xor i (2 ^ k)) first ∙ ap (λ i. bit_xor (0 * 2 ^ k + n) i) second ∙ xor_block k 0 1 n 0 h some ∙ ap (λ i. 1 * 2 ^ k + i) (xor_zero n) ∙ omega arith

xor_top : (k n : ℕ) → 2 ^ k ≤ n → n < 2 * 2 ^ k → bit_xor n (2 ^ k) ≡ n - 2 ^ k
xor_top k n h fits =
    let some : 0 < 2 ^ k = pow_pos k in
    let less : n - 2 ^ k < 2 ^ k = omega arith in
    let first : n ≡ 1 * 2 ^ k + (n - 2 ^ k) = omega arith in
    let second : 2 ^ k ≡ 1 * 2 ^ k + 0 = omega arith in
    ap (λ i. bit_xor i (2 ^ k)) first ∙ ap (λ i. bit_xor (1 * 2 ^ k + (n - 2 ^ k)) i) second ∙ xor_block k 1 1 (n - 2 ^ k) 0 less some ∙ ap (λ i. 0 * 2 ^ k + i) (xor_zero (n - 2 ^ k)) ∙ omega arith

rank_signed : (w n : ℕ) → 1 ≤ w → n < 2 ^ w → bit_xor n (2 ^ (w - 1)) ≡ rank true w n
rank_signed w n one fits =
    let half : 2 * 2 ^ (w - 1) ≡ 2 ^ w = twice_half w one in
    elim (cases_lt (2 * n) (2 ^ w)) [
      | inl low ↦ rw (lt-leb (2 ^ w) (2 * n) low) (xor_above (w - 1) n (omega (arith, half, low)))
      | inr high ↦ rw (le-leb (2 ^ w) (2 * n) high) (xor_top (w - 1) n (omega (arith, half, high)) (omega (arith, half, fits)))
    ]

pub bit_from_byte : (s : Bool) → from_bool s ≡ bit s
bit_from_byte false = refl
bit_from_byte true = refl

-- as the machine computes it, of a test as a number
pub rank_is : (s : Bool) (w n b : ℕ) → 1 ≤ w → w ≤ 128 → n < 2 ^ w → b ≡ bit s → bit_xor n (b * 2 ^ (w - 1) % 2 ^ 128) ≡ rank s w n
rank_is false w n b one most fits e =
    let none : b * 2 ^ (w - 1) ≡ 0 = ap (λ k. k * 2 ^ (w - 1)) e ∙ omega arith in
    ap (λ k. bit_xor n (k % 2 ^ 128)) none ∙ xor_zero n
rank_is true w n b one most fits e =
    ap (λ k. bit_xor n (k * 2 ^ (w - 1) % 2 ^ 128)) e ∙ ap (bit_xor n) (one_shl (w - 1) 128 (omega arith)) ∙ rank_signed w n one fits
