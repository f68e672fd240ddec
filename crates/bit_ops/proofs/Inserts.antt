-- Bits put into a number.
use Rattle.std.proofs.Common.{◌≡◌, ℕ, ◌+◌, ◌-◌, ◌*◌, ◌/◌, ◌%◌, ◌^◌, ◌<◌, ◌≤◌, min, bit_and, bit_or, sym, ap, subst, ◌∙◌, inl, inr, arith}
use Rattle.std.proofs.Math.Nat.{mod-eq_of_lt, mod-lt}
use Rattle.std.proofs.lemmas.Bool.{cases_lt}
use Rattle.std.proofs.lemmas.Nat.{pow_pos, pow-add, shr-shr, shr_split, shr_below, mod-pow-add, mod_low, shr_high, shl_whole, shl_below, and_mask, and_comm, and-not, or_block, or_comm, or_shifted, mul-add-lt}
use Rattle.std.proofs.lemmas.Nat.Bits.{and_high}
use Rattle.bit_ops.specs.Operators.{insert_at, concat}
use Rattle.bit_ops.proofs.Residues.{wider, high_far, low_far}

-- a number in three parts: above k + p, the p bits from k on, and below k
pub three_parts : (n k p : ℕ) → n ≡ (n / 2 ^ (k + p)) * 2 ^ p * 2 ^ k + (n / 2 ^ k % 2 ^ p) * 2 ^ k + n % 2 ^ k
three_parts n k p =
    let outer : n / 2 ^ k * 2 ^ k + n % 2 ^ k ≡ n = shr_split n k in
    let inner : n / 2 ^ k / 2 ^ p * 2 ^ p + n / 2 ^ k % 2 ^ p ≡ n / 2 ^ k = shr_split (n / 2 ^ k) p in
    let far : n / 2 ^ k / 2 ^ p ≡ n / 2 ^ (k + p) = shr-shr n k p in
    let mid : n / 2 ^ k ≡ (n / 2 ^ (k + p)) * 2 ^ p + n / 2 ^ k % 2 ^ p = sym inner ∙ ap (λ x. x * 2 ^ p + n / 2 ^ k % 2 ^ p) far in
    let moved : n / 2 ^ k * 2 ^ k ≡ ((n / 2 ^ (k + p)) * 2 ^ p + n / 2 ^ k % 2 ^ p) * 2 ^ k = ap (λ x. x * 2 ^ k) mid in
    omega (arith, outer, moved)

-- the mask of p bits from place k on
mask_is : (p k : ℕ) → (2 ^ p - 1) * 2 ^ k ≡ 2 ^ (p + k) - 2 ^ k
mask_is p k =
    let some : 0 < 2 ^ p = pow_pos p in
    let all : 2 ^ (p + k) ≡ 2 ^ p * 2 ^ k = pow-add 2 p k in
    let rest : 2 ^ p ≡ (2 ^ p - 1) + 1 = omega (arith, some) in
    let moved : 2 ^ p * 2 ^ k ≡ ((2 ^ p - 1) + 1) * 2 ^ k = ap (λ x. x * 2 ^ k) rest in
    omega (arith, all, moved)

-- what is left where these bits are cleared
cleared : (t n k p : ℕ) → n < 2 ^ t → p + k ≤ t → bit_and n ((2 ^ t - 1) - (2 ^ p - 1) * 2 ^ k) ≡ (n / 2 ^ (k + p)) * 2 ^ p * 2 ^ k + n % 2 ^ k
cleared t n k p fits within =
    let mask : ℕ = (2 ^ p - 1) * 2 ^ k in
    let low_one : 0 < 2 ^ k = pow_pos k in
    let some : 0 < 2 ^ p = pow_pos p in
    let short : 2 ^ p - 1 < 2 ^ p = omega (arith, some) in
    let small : mask < 2 ^ (p + k) = shl_below (2 ^ p - 1) p k short in
    let wide : 2 ^ (p + k) ≤ 2 ^ t = wider (p + k) t within in
    let fits_mask : mask < 2 ^ t = omega (arith, small, wide) in
    let both : bit_and ((2 ^ t - 1) - mask) n + bit_and mask n ≡ n = and-not t mask n fits_mask fits in
    let turned : bit_and n ((2 ^ t - 1) - mask) ≡ bit_and ((2 ^ t - 1) - mask) n = and_comm n ((2 ^ t - 1) - mask) in
    let taken : bit_and mask n ≡ (n / 2 ^ k % 2 ^ p) * 2 ^ k = and_comm mask n ∙ ap (bit_and n) (mask_is p k) ∙ and_high n p k in
    let parts : n ≡ (n / 2 ^ (k + p)) * 2 ^ p * 2 ^ k + (n / 2 ^ k % 2 ^ p) * 2 ^ k + n % 2 ^ k = three_parts n k p in
    omega (arith, both, turned, taken, parts)

or_zero : (n : ℕ) → bit_or n 0 ≡ n
or_zero n = or_comm n 0

-- three parts, put together by `|`
put_together : (h y r k p : ℕ) → y < 2 ^ p → r < 2 ^ k → bit_or (h * 2 ^ p * 2 ^ k + r) (y * 2 ^ k) ≡ (h * 2 ^ p + y) * 2 ^ k + r
put_together h y r k p few less =
    let some : 0 < 2 ^ k = pow_pos k in
    let second : y * 2 ^ k ≡ y * 2 ^ k + 0 = omega arith in
    ap (bit_or (h * 2 ^ p * 2 ^ k + r)) second ∙ or_block k (h * 2 ^ p) y r 0 less some
    ∙ ap (λ x. x * 2 ^ k + bit_or r 0) (or_shifted h p y few) ∙ ap (λ x. (h * 2 ^ p + y) * 2 ^ k + x) (or_zero r)

-- what the machine computes, where p bits are put to place k
machine_put : (t n k p b : ℕ) → n < 2 ^ t → p + k ≤ t
    → bit_or (bit_and n ((2 ^ t - 1) - (2 ^ p - 1) * 2 ^ k % 2 ^ t)) (bit_and b (2 ^ p - 1) * 2 ^ k % 2 ^ t) ≡ ((n / 2 ^ (k + p)) * 2 ^ p + b % 2 ^ p) * 2 ^ k + n % 2 ^ k
machine_put t n k p b fits within =
    let some : 0 < 2 ^ p = pow_pos p in
    let short : 2 ^ p - 1 < 2 ^ p = omega (arith, some) in
    let few : b % 2 ^ p < 2 ^ p = mod-lt b some in
    let mask : (2 ^ p - 1) * 2 ^ k % 2 ^ t ≡ (2 ^ p - 1) * 2 ^ k = shl_whole (2 ^ p - 1) p k t short within in
    let part : bit_and b (2 ^ p - 1) * 2 ^ k % 2 ^ t ≡ (b % 2 ^ p) * 2 ^ k = ap (λ x. x * 2 ^ k % 2 ^ t) (and_mask b p) ∙ shl_whole (b % 2 ^ p) p k t few within in
    ap (λ x. bit_or (bit_and n ((2 ^ t - 1) - x)) (bit_and b (2 ^ p - 1) * 2 ^ k % 2 ^ t)) mask ∙ ap (bit_or (bit_and n ((2 ^ t - 1) - (2 ^ p - 1) * 2 ^ k))) part
    ∙ ap (λ x. bit_or x ((b % 2 ^ p) * 2 ^ k)) (cleared t n k p fits within) ∙ put_together (n / 2 ^ (k + p)) (b % 2 ^ p) (n % 2 ^ k) k p few (mod-lt n (pow_pos k))

-- all of the part lies within
pub insert_within : (v n k p b : ℕ) → n < 2 ^ v → p + k ≤ v → ((n / 2 ^ (k + p)) * 2 ^ p + b % 2 ^ p) * 2 ^ k + n % 2 ^ k ≡ insert_at v k p b n
insert_within v n k p b fits within =
    let h : ℕ = n / 2 ^ (k + p) in let y : ℕ = b % 2 ^ p in let r : ℕ = n % 2 ^ k in
    let few : y < 2 ^ p = mod-lt b (pow_pos p) in
    let less : r < 2 ^ k = mod-lt n (pow_pos k) in
    let width : v ≡ (v - (k + p)) + (k + p) = omega arith in
    let high : h < 2 ^ (v - (k + p)) = shr_below n (v - (k + p)) (k + p) (subst (λ x. n < 2 ^ x) width fits) in
    let upper : h * 2 ^ p + y < 2 ^ p * 2 ^ (v - (k + p)) = mul-add-lt h (2 ^ p) y (2 ^ (v - (k + p))) high few in
    let all : (h * 2 ^ p + y) * 2 ^ k + r < 2 ^ k * (2 ^ p * 2 ^ (v - (k + p))) = mul-add-lt (h * 2 ^ p + y) (2 ^ k) r (2 ^ p * 2 ^ (v - (k + p))) upper less in
    let both : 2 ^ (k + p) ≡ 2 ^ k * 2 ^ p = pow-add 2 k p in
    let whole : 2 ^ v ≡ 2 ^ (v - (k + p)) * 2 ^ (k + p) = ap (λ x. 2 ^ x) width ∙ pow-add 2 (v - (k + p)) (k + p) in
    let named : 2 ^ (v - (k + p)) * 2 ^ (k + p) ≡ 2 ^ (v - (k + p)) * (2 ^ k * 2 ^ p) = ap (λ x. 2 ^ (v - (k + p)) * x) both in
    let total : (h * 2 ^ p + y) * 2 ^ k + r < 2 ^ v = omega (arith, all, whole, named) in
    let moved : h * 2 ^ (k + p) ≡ h * (2 ^ k * 2 ^ p) = ap (λ x. h * x) both in
    let same : (h * 2 ^ p + y) * 2 ^ k + r ≡ h * 2 ^ (k + p) + (y * 2 ^ k + r) = omega (arith, moved) in
    sym (mod-eq_of_lt total) ∙ ap (λ x. x % 2 ^ v) same

-- the part goes beyond the width: only the bits up to it are put
insert_beyond : (v n k w b : ℕ) → n < 2 ^ v → k < v → v ≤ k + w → b < 2 ^ w → ((n / 2 ^ (k + (v - k))) * 2 ^ (v - k) + b % 2 ^ (v - k)) * 2 ^ k + n % 2 ^ k ≡ insert_at v k w b n
insert_beyond v n k w b fits inside beyond part =
    let p : ℕ = v - k in
    let y : ℕ = b % 2 ^ p in let r : ℕ = n % 2 ^ k in
    let less : r < 2 ^ k = mod-lt n (pow_pos k) in
    let none : n / 2 ^ (k + p) ≡ 0 = high_far v (k + p) n (omega arith) fits in
    let none_far : n / 2 ^ (k + w) ≡ 0 = high_far v (k + w) n beyond fits in
    let kept : b % 2 ^ w ≡ b = mod-eq_of_lt part in
    let width : p + k ≡ v = omega arith in
    let all : (b * 2 ^ k + r) % 2 ^ (p + k) ≡ ((b * 2 ^ k + r) / 2 ^ k % 2 ^ p) * 2 ^ k + (b * 2 ^ k + r) % 2 ^ k = mod-pow-add (b * 2 ^ k + r) p k in
    let cut : (b * 2 ^ k + r) % 2 ^ v ≡ y * 2 ^ k + r =
    ap (λ x. (b * 2 ^ k + r) % 2 ^ x) (sym width) ∙ all ∙ ap (λ x. (x % 2 ^ p) * 2 ^ k + (b * 2 ^ k + r) % 2 ^ k) (shr_high b k r less) ∙ ap (λ x. y * 2 ^ k + x) (mod_low b k r less) in
    let right : insert_at v k w b n ≡ (b * 2 ^ k + r) % 2 ^ v =
    ap (λ x. (x * 2 ^ (k + w) + (b % 2 ^ w * 2 ^ k + r)) % 2 ^ v) none_far ∙ ap (λ x. (0 * 2 ^ (k + w) + (x * 2 ^ k + r)) % 2 ^ v) kept ∙ ap (λ x. x % 2 ^ v) (omega arith) in
    ap (λ x. (x * 2 ^ p + y) * 2 ^ k + r) none ∙ omega arith ∙ sym cut ∙ sym right

pub put_is : (t v n k w b : ℕ) → v ≤ t → n < 2 ^ v → k < v → b < 2 ^ w → let p : ℕ = min w (v - k) in
    bit_or (bit_and n ((2 ^ t - 1) - (2 ^ p - 1) * 2 ^ k % 2 ^ t)) (bit_and b (2 ^ p - 1) * 2 ^ k % 2 ^ t) ≡ insert_at v k w b n
put_is t v n k w b most fits inside part =
    let wide : 2 ^ v ≤ 2 ^ t = wider v t most in
    let fits_t : n < 2 ^ t = omega (arith, wide, fits) in
    elim (cases_lt (v - k) w) [
      | inl beyond ↦
          let is : min w (v - k) ≡ v - k = omega arith in
          rw is (machine_put t n k (v - k) b fits_t (omega arith) ∙ insert_beyond v n k w b fits inside (omega arith) part)
      | inr within ↦
          let is : min w (v - k) ≡ w = omega arith in
          rw is (machine_put t n k w b fits_t (omega arith) ∙ insert_within v n k w b fits (omega arith))
    ]

-- ---- a part that lies outside

pub outside_above : (v n k w b : ℕ) → n < 2 ^ v → v ≤ k → n ≡ insert_at v k w b n
outside_above v n k w b fits far =
    let none : n / 2 ^ (k + w) ≡ 0 = high_far v (k + w) n (omega arith) fits in
    let wide : 2 ^ v ≤ 2 ^ k = wider v k far in
    let kept : n % 2 ^ k ≡ n = mod-eq_of_lt (omega (arith, wide, fits)) in
    let lost : (b % 2 ^ w * 2 ^ k) % 2 ^ v ≡ 0 = low_far v k (b % 2 ^ w) far in
    let parts : insert_at v k w b n ≡ (b % 2 ^ w * 2 ^ k + n) % 2 ^ v =
    ap (λ x. (x * 2 ^ (k + w) + (b % 2 ^ w * 2 ^ k + n % 2 ^ k)) % 2 ^ v) none ∙ ap (λ x. (0 * 2 ^ (k + w) + (b % 2 ^ w * 2 ^ k + x)) % 2 ^ v) kept ∙ ap (λ x. x % 2 ^ v) (omega arith) in
    sym (parts ∙ add_lost (b % 2 ^ w * 2 ^ k) n v lost fits)
  where
    add_lost : (x n v : ℕ) → x % 2 ^ v ≡ 0 → n < 2 ^ v → (x + n) % 2 ^ v ≡ n
    add_lost x n v e fits = let split : x / 2 ^ v * 2 ^ v + x % 2 ^ v ≡ x = shr_split x v in
        let same : x + n ≡ x / 2 ^ v * 2 ^ v + n = omega (arith, split, e) in
        ap (λ i. i % 2 ^ v) same ∙ mod_low (x / 2 ^ v) v n fits

pub outside_below : (v n b c : ℕ) → n < 2 ^ v → c ≡ 0 → n ≡ insert_at v 0 c b n
outside_below v n b c fits e = rw e (sym (mod-eq_of_lt fits) ∙ ap (λ x. x % 2 ^ v) (omega arith))

-- ---- side by side

pub joined_is : (t h a l w : ℕ) → h < 2 ^ a → l < 2 ^ w → a + w ≤ t → bit_or (h * 2 ^ w % 2 ^ t) l ≡ concat w h l
joined_is t h a l w fits_h fits_l within = ap (λ x. bit_or x l) (shl_whole h a w t fits_h within) ∙ or_shifted h w l fits_l

pub joined_fits : (h a l w : ℕ) → h < 2 ^ a → l < 2 ^ w → concat w h l < 2 ^ (a + w)
joined_fits h a l w fits_h fits_l =
    let whole : 2 ^ (a + w) ≡ 2 ^ a * 2 ^ w = pow-add 2 a w in
    let less : h * 2 ^ w + l < 2 ^ w * 2 ^ a = mul-add-lt h (2 ^ w) l (2 ^ a) fits_h fits_l in
    omega (arith, whole, less)
