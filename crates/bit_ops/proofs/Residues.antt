-- Numbers modulo a power of two, as machine numbers of a greater width compute them.
use Rattle.std.proofs.Common.{◌≡◌, ℕ, zero, suc, ◌+◌, ◌-◌, ◌*◌, ◌/◌, ◌%◌, ◌^◌, ◌<◌, ◌≤◌, min, ℤ, pos, negsuc, ◌-ℤ◌, neg_ℤ, refl, sym, ap, subst, ◌∙◌, inl, inr, arith, lit<}
use Rattle.std.proofs.Math.Nat.{mod-eq_of_lt, mod-lt, add-mod_right, mul-mod_left, pow-le-pow_right, div-eq_of_lt}
use Rattle.std.proofs.Math.Pow.{mod-mod-pow}
use Rattle.std.proofs.lemmas.Bool.{le-leb, lt-leb, cases_lt}
use Rattle.std.proofs.lemmas.Nat.{pow_pos, pow-add, shr_split, shr_below, mod_low}
use Rattle.bit_ops.specs.Operators.{residue, negate, sub}

-- a whole number less a greater one, and less one that is no greater
pub below_zero : (a b : ℕ) → a < b → pos a -ℤ pos b ≡ negsuc (b - (a + 1))
below_zero a zero h = absurd (omega arith)
below_zero a (suc b) h =
    let less : suc a ≤ suc b = omega arith in
    let same : suc b - suc a ≡ suc b - (a + 1) = omega arith in
    rw (le-leb (suc a) (suc b) less) (ap negsuc same)

pub above_zero : (a b : ℕ) → b ≤ a → pos a -ℤ pos b ≡ pos (a - b)
above_zero a zero h = ap pos (omega arith)
above_zero a (suc b) h = let more : suc b < suc a = omega arith in rw (lt-leb (suc a) (suc b) more) refl

pub from_zero : (a : ℕ) → pos 0 -ℤ pos a ≡ neg_ℤ (pos a)
from_zero zero = refl
from_zero (suc a) = below_zero 0 (suc a) (omega arith) ∙ ap negsuc (omega arith)

pub wider : (v w : ℕ) → v ≤ w → 2 ^ v ≤ 2 ^ w
wider v w h = pow-le-pow_right (lit< tt) h

-- every result is a value of its width
pub residue_fits : (w : ℕ) (z : ℤ) → residue w z < 2 ^ w
residue_fits w (pos n) = mod-lt n (pow_pos w)
residue_fits w (negsuc n) = let p : 0 < 2 ^ w = pow_pos w in omega (arith, p)

-- the power of a width above a lesser one
split_power : (t w : ℕ) → w ≤ t → 2 ^ t ≡ 2 ^ (t - w) * 2 ^ w
split_power t w h =
    let same : t ≡ (t - w) + w = omega arith in ap (λ k. 2 ^ k) same ∙ pow-add 2 (t - w) w

-- to cut to a greater width first changes nothing
pub low_low : (t w n : ℕ) → w ≤ t → n % 2 ^ t % 2 ^ w ≡ n % 2 ^ w
low_low t w n h =
    let same : t ≡ (t - w) + w = omega arith in ap (λ k. n % 2 ^ k % 2 ^ w) same ∙ mod-mod-pow n (t - w) w

-- what stands below the greatest number of a greater width stands so far below that of the lesser
pub low_short : (t w d : ℕ) → w ≤ t → d < 2 ^ t → (2 ^ t - (d + 1)) % 2 ^ w ≡ (2 ^ w - 1) - d % 2 ^ w
low_short t w d h fits =
    let same : t ≡ (t - w) + w = omega arith in
    let m : ℕ = 2 ^ w in let q : ℕ = d / 2 ^ w in let r : ℕ = d % 2 ^ w in
    let whole : 2 ^ t ≡ 2 ^ (t - w) * 2 ^ w = split_power t w h in
    let parts : q * 2 ^ w + r ≡ d = shr_split d w in
    let few : r < 2 ^ w = mod-lt d (pow_pos w) in
    let within : q < 2 ^ (t - w) = shr_below d (t - w) w (subst (λ k. d < 2 ^ k) same fits) in
    let c : ℕ = 2 ^ (t - w) - (q + 1) in
    let rest : 2 ^ (t - w) ≡ c + (q + 1) = omega (arith, within) in
    let all : 2 ^ t ≡ (c + (q + 1)) * 2 ^ w = whole ∙ ap (λ k. k * 2 ^ w) rest in
    let halves : 2 ^ t - (d + 1) ≡ c * 2 ^ w + (2 ^ w - (r + 1)) = omega (arith, all, parts, few) in
    let last : 2 ^ w - (r + 1) < 2 ^ w = omega (arith, few) in
    ap (λ k. k % 2 ^ w) halves ∙ mod_low c w (2 ^ w - (r + 1)) last ∙ omega (arith, few)

-- a difference that wraps at a greater width
pub low_difference : (t w a b : ℕ) → w ≤ t → a < 2 ^ t → b < 2 ^ t → (a + (2 ^ t - b)) % 2 ^ t % 2 ^ w ≡ sub w a b
low_difference t w a b h fits_a fits_b =
    elim (cases_lt a b) [
      | inl less ↦
          let turned : a + (2 ^ t - b) ≡ 2 ^ t - ((b - (a + 1)) + 1) = omega arith in
          let fits : 2 ^ t - ((b - (a + 1)) + 1) < 2 ^ t = omega arith in
          let short : b - (a + 1) < 2 ^ t = omega arith in
          rw (below_zero a b less) (ap (λ k. k % 2 ^ t % 2 ^ w) turned ∙ ap (λ k. k % 2 ^ w) (mod-eq_of_lt fits) ∙ low_short t w (b - (a + 1)) h short)
      | inr more ↦
          let turned : a + (2 ^ t - b) ≡ (a - b) + 2 ^ t = omega arith in
          rw (above_zero a b more) (ap (λ k. k % 2 ^ t % 2 ^ w) turned ∙ ap (λ k. k % 2 ^ w) (add-mod_right (a - b) (2 ^ t)) ∙ low_low t w (a - b) h)
    ]

pub low_negated : (t w a : ℕ) → w ≤ t → a < 2 ^ t → (0 + (2 ^ t - a)) % 2 ^ t % 2 ^ w ≡ negate w a
low_negated t w a h fits = low_difference t w 0 a h (pow_pos t) fits ∙ ap (residue w) (from_zero a)

-- ---- distances

-- a number that is moved beyond a width leaves nothing in it
pub low_far : (w d n : ℕ) → w ≤ d → n * 2 ^ d % 2 ^ w ≡ 0
low_far w d n h =
    let whole : 2 ^ d ≡ 2 ^ (d - w) * 2 ^ w = split_power d w h in
    let moved : n * 2 ^ d ≡ (n * 2 ^ (d - w)) * 2 ^ w = ap (λ k. n * k) whole ∙ omega arith in
    ap (λ k. k % 2 ^ w) moved ∙ mul-mod_left (n * 2 ^ (d - w)) (2 ^ w)

pub high_far : (w d n : ℕ) → w ≤ d → n < 2 ^ w → n / 2 ^ d ≡ 0
high_far w d n h fits = let wide : 2 ^ w ≤ 2 ^ d = wider w d h in div-eq_of_lt (omega (arith, wide, fits))

-- so a distance may be cut at a width
pub left_min : (t w n d : ℕ) → w ≤ t → n * 2 ^ min d t % 2 ^ w ≡ n * 2 ^ d % 2 ^ w
left_min t w n d h =
    elim (cases_lt t d) [
      | inl far ↦ low_far w (min d t) n (omega arith) ∙ sym (low_far w d n (omega arith))
      | inr near ↦ let same : min d t ≡ d = omega arith in ap (λ k. n * 2 ^ k % 2 ^ w) same
    ]

pub right_min : (t n d : ℕ) → n < 2 ^ t → n / 2 ^ min d t ≡ n / 2 ^ d
right_min t n d fits =
    elim (cases_lt t d) [
      | inl far ↦ high_far t (min d t) n (omega arith) fits ∙ sym (high_far t d n (omega arith) fits)
      | inr near ↦ let same : min d t ≡ d = omega arith in ap (λ k. n / 2 ^ k) same
    ]
