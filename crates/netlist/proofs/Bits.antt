-- Bits of a number into which bits were put.
use Rattle.std.proofs.Common.{◌≡◌, ℕ, ◌+◌, ◌-◌, ◌*◌, ◌/◌, ◌%◌, ◌^◌, ◌<◌, ◌≤◌, sym, ap, subst, ◌∙◌, inl, inr, arith}
use Rattle.std.specs.Int.{bit_at}
use Rattle.std.proofs.Math.Nat.{mod-lt}
use Rattle.std.proofs.lemmas.Bool.{cases_lt}
use Rattle.std.proofs.lemmas.Nat.{pow_pos, pow-add, shr-shr, shr_split, mul-add-lt}
use Rattle.std.proofs.lemmas.Nat.Bits.{bit_at_above, bit_at_cat_low, bit_at_cat_high}
use Rattle.bit_ops.specs.Operators.{insert_at}

-- a bit of the low w bits is the number's own
pub low_bit : (w n i : ℕ) → i < w → bit_at (n % 2 ^ w) i ≡ bit_at n i
low_bit w n i l =
    sym (bit_at_cat_low (n / 2 ^ w) w (n % 2 ^ w) i l) ∙ ap (λ x. bit_at x i) (shr_split n w)

-- a bit of what stands from the place k on
pub high_bit : (k n i : ℕ) → bit_at (n / 2 ^ k) i ≡ bit_at n (k + i)
high_bit k n i = ap (λ x. x % 2) (shr-shr n k i)

-- the w bits of b above the k bits of a
abbrev inner : ℕ → ℕ → ℕ → ℕ → ℕ
inner k w b a = b % 2 ^ w * 2 ^ k + a % 2 ^ k

inner_fits : (k w b a : ℕ) → inner k w b a < 2 ^ (k + w)
inner_fits k w b a =
    subst (λ x. inner k w b a < x) (sym (pow-add 2 k w))
    (mul-add-lt (b % 2 ^ w) (2 ^ k) (a % 2 ^ k) (2 ^ w) (mod-lt b (pow_pos w)) (mod-lt a (pow_pos k)))

-- the bits put in
pub bit_inside : (v k w b a i : ℕ) → k + w ≤ v → k ≤ i → i < k + w
    → bit_at (insert_at v k w b a) i ≡ bit_at b (i - k)
bit_inside v k w b a i within from to =
    low_bit v (a / 2 ^ (k + w) * 2 ^ (k + w) + inner k w b a) i (omega arith)
    ∙ bit_at_cat_low (a / 2 ^ (k + w)) (k + w) (inner k w b a) i to
    ∙ bit_at_cat_high (b % 2 ^ w) k (a % 2 ^ k) i (mod-lt a (pow_pos k)) from ∙ low_bit w b (i - k) (omega arith)

-- those below
pub bit_below : (v k w b a i : ℕ) → k + w ≤ v → i < k → bit_at (insert_at v k w b a) i ≡ bit_at a i
bit_below v k w b a i within l =
    low_bit v (a / 2 ^ (k + w) * 2 ^ (k + w) + inner k w b a) i (omega arith)
    ∙ bit_at_cat_low (a / 2 ^ (k + w)) (k + w) (inner k w b a) i (omega arith)
    ∙ bit_at_cat_low (b % 2 ^ w) k (a % 2 ^ k) i l ∙ low_bit k a i l

-- those above: there is nothing from the width on
pub bit_above : (v k w b a i : ℕ) → a < 2 ^ v → k + w ≤ i → bit_at (insert_at v k w b a) i ≡ bit_at a i
bit_above v k w b a i fits l = elim (cases_lt i v) [
  | inl inside ↦
      let j : ℕ = i - (k + w) in
      let place : (k + w) + j ≡ i = omega arith in
      low_bit v (a / 2 ^ (k + w) * 2 ^ (k + w) + inner k w b a) i inside
      ∙ bit_at_cat_high (a / 2 ^ (k + w)) (k + w) (inner k w b a) i (inner_fits k w b a) l
      ∙ high_bit (k + w) a j ∙ ap (bit_at a) place
  | inr beyond ↦
      bit_at_above (insert_at v k w b a) v i
      (mod-lt (a / 2 ^ (k + w) * 2 ^ (k + w) + inner k w b a) (pow_pos v)) beyond ∙ sym (bit_at_above a v i fits beyond)
]
