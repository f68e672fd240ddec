-- Bits taken and put back, and vectors side by side.
use Rattle.std.proofs.Common.{◌≡◌, ℕ, suc, ◌+◌, ◌-◌, ◌*◌, ◌/◌, ◌%◌, ◌^◌, ◌<◌, ◌≤◌, ℤ, pos, negsuc, sym, ap, ◌∙◌, inl, inr, arith}
use Rattle.std.proofs.Math.Nat.{mod-eq_of_lt, mod-lt, mod-mod, div-one}
use Rattle.std.proofs.lemmas.Bool.{cases_lt}
use Rattle.std.proofs.lemmas.Nat.{pow_pos, pow-add, shl-shr, shr-shr, shr_split, shr_below, shr_high, mod_low, field_of}
use Rattle.bit_ops.specs.Operators.{select, insert, insert_at, concat}
use Rattle.bit_ops.specs.Laws.{OthersStay}
use Rattle.bit_ops.proofs.Residues.{low_low, high_far}
use Rattle.bit_ops.proofs.Inserts.{three_parts, insert_within, outside_above, outside_below}

-- a number's own bits, put where they stand
own_bits : (v k p b n : ℕ) → n < 2 ^ v → b % 2 ^ p ≡ n / 2 ^ k % 2 ^ p → insert_at v k p b n ≡ n
own_bits v k p b n fits same =
    let high : ℕ = n / 2 ^ (k + p) in
    let both : 2 ^ (k + p) ≡ 2 ^ k * 2 ^ p = pow-add 2 k p in
    let moved : high * 2 ^ (k + p) ≡ high * (2 ^ k * 2 ^ p) = ap (λ x. high * x) both in
    let parts : n ≡ high * 2 ^ p * 2 ^ k + (n / 2 ^ k % 2 ^ p) * 2 ^ k + n % 2 ^ k = three_parts n k p in
    let whole : high * 2 ^ (k + p) + ((n / 2 ^ k % 2 ^ p) * 2 ^ k + n % 2 ^ k) ≡ n = omega (arith, moved, parts) in
    ap (λ x. (high * 2 ^ (k + p) + (x * 2 ^ k + n % 2 ^ k)) % 2 ^ v) same ∙ ap (λ x. x % 2 ^ v) whole ∙ mod-eq_of_lt fits

pub put_back : (v w n : ℕ) (z : ℤ) → n < 2 ^ v → insert v z w (select z w n) n ≡ n
put_back v w n (pos k) fits = own_bits v k w (n / 2 ^ k % 2 ^ w) n fits (mod-mod (n / 2 ^ k) (2 ^ w))
put_back v w n (negsuc k) fits =
    elim (cases_lt w (suc k)) [
      | inl far ↦ sym (outside_below v n (n * 2 ^ suc k % 2 ^ w / 2 ^ suc k) (w - suc k) fits (omega arith))
      | inr near ↦
          let width : w ≡ (w - suc k) + suc k = omega arith in
          let taken : n * 2 ^ suc k % 2 ^ w / 2 ^ suc k ≡ n % 2 ^ (w - suc k) =
          ap (λ x. n * 2 ^ suc k % 2 ^ x / 2 ^ suc k) width ∙ field_of (n * 2 ^ suc k) (w - suc k) (suc k) ∙ ap (λ x. x % 2 ^ (w - suc k)) (shl-shr n (suc k)) in
          own_bits v 0 (w - suc k) (n * 2 ^ suc k % 2 ^ w / 2 ^ suc k) n fits
          (ap (λ x. x % 2 ^ (w - suc k)) taken ∙ mod-mod n (2 ^ (w - suc k)) ∙ ap (λ x. x % 2 ^ (w - suc k)) (sym (div-one n)))
    ]

pub read_back : (v k w b n : ℕ) → n < 2 ^ v → b < 2 ^ w → w + k ≤ v → select (pos k) w (insert v (pos k) w b n) ≡ b
read_back v k w b n fits few within =
    ap (λ x. x / 2 ^ k % 2 ^ w) (sym (insert_within v n k w b fits within))
    ∙ ap (λ x. x % 2 ^ w) (shr_high (n / 2 ^ (k + w) * 2 ^ w + b % 2 ^ w) k (n % 2 ^ k) (mod-lt n (pow_pos k)))
    ∙ mod_low (n / 2 ^ (k + w)) w (b % 2 ^ w) (mod-lt b (pow_pos w)) ∙ mod-eq_of_lt few

-- ---- the bits beside a part

-- from its end on: beyond the width there is nothing before and after
stays_above : (v k w b n : ℕ) → n < 2 ^ v → insert_at v k w b n / 2 ^ (k + w) ≡ n / 2 ^ (k + w)
stays_above v k w b n fits =
    elim (cases_lt v (k + w)) [
      | inl beyond ↦ high_far v (k + w) (insert_at v k w b n) (omega arith) (mod-lt _ (pow_pos v)) ∙ sym (high_far v (k + w) n (omega arith) fits)
      | inr within ↦
          let h : ℕ = n / 2 ^ (k + w) in let y : ℕ = b % 2 ^ w in let r : ℕ = n % 2 ^ k in
          ap (λ x. x / 2 ^ (k + w)) (sym (insert_within v n k w b fits (omega arith))) ∙ sym (shr-shr ((h * 2 ^ w + y) * 2 ^ k + r) k w)
          ∙ ap (λ x. x / 2 ^ w) (shr_high (h * 2 ^ w + y) k r (mod-lt n (pow_pos k))) ∙ shr_high h w y (mod-lt b (pow_pos w))
    ]

stays_below : (v k w b n : ℕ) → n < 2 ^ v → insert_at v k w b n % 2 ^ k ≡ n % 2 ^ k
stays_below v k w b n fits =
    elim (cases_lt k v) [
      | inl within ↦
          let h : ℕ = n / 2 ^ (k + w) in let y : ℕ = b % 2 ^ w in let r : ℕ = n % 2 ^ k in
          let both : 2 ^ (k + w) ≡ 2 ^ k * 2 ^ w = pow-add 2 k w in
          let moved : h * 2 ^ (k + w) ≡ h * (2 ^ k * 2 ^ w) = ap (λ x. h * x) both in
          let same : h * 2 ^ (k + w) + (y * 2 ^ k + r) ≡ (h * 2 ^ w + y) * 2 ^ k + r = omega (arith, moved) in
          low_low v k (h * 2 ^ (k + w) + (y * 2 ^ k + r)) (omega arith) ∙ ap (λ x. x % 2 ^ k) same
          ∙ mod_low (h * 2 ^ w + y) k r (mod-lt n (pow_pos k))
      | inr far ↦ ap (λ x. x % 2 ^ k) (sym (outside_above v n k w b fits far))
    ]

pub others_stay : (v w k b n : ℕ) → n < 2 ^ v → OthersStay v w k b n
others_stay v w k b n fits =
    let m : ℕ = w - suc k in let part : ℕ = b / 2 ^ suc k in
    let whole : 0 + (w - suc k) ≡ w - suc k = omega arith in
    record {
      below = ap (λ x. x % 2 ^ k) (div-one (insert_at v k w b n)) ∙ stays_below v k w b n fits ∙ sym (ap (λ x. x % 2 ^ k) (div-one n));
      above = λ i. ap (λ x. x % 2 ^ i) (stays_above v k w b n fits);
      above_low = λ i. ap (λ x. x % 2 ^ i)
          (ap (λ j. insert_at v 0 m part n / 2 ^ j) (sym whole) ∙ stays_above v 0 m part n fits ∙ ap (λ j. n / 2 ^ j) whole);
    }

pub right_part : (w a b : ℕ) → b < 2 ^ w → select (pos 0) w (concat w a b) ≡ b
right_part w a b fits = ap (λ x. x % 2 ^ w) (div-one (a * 2 ^ w + b)) ∙ mod_low a w b fits

pub left_part : (v w a b : ℕ) → a < 2 ^ v → b < 2 ^ w → select (pos w) v (concat w a b) ≡ a
left_part v w a b fits_a fits_b = ap (λ x. x % 2 ^ v) (shr_high a w b fits_b) ∙ mod-eq_of_lt fits_a

pub both_parts : (v w n : ℕ) → n < 2 ^ (v + w) → concat w (select (pos w) v n) (select (pos 0) w n) ≡ n
both_parts v w n fits =
    ap (λ x. x * 2 ^ w + n / 2 ^ 0 % 2 ^ w) (mod-eq_of_lt (shr_below n v w fits)) ∙ ap (λ x. n / 2 ^ w * 2 ^ w + x % 2 ^ w) (div-one n) ∙ shr_split n w
