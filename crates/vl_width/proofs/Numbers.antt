-- Numbers of a width.
use Rattle.std.proofs.Common.{◌≡◌, ℕ, zero, suc, ◌+◌, ◌-◌, ◌*◌, ◌/◌, ◌%◌, ◌^◌, ◌<◌, ◌≤◌, Bool, true, false, ℤ, pos, negsuc, ◌-ℤ◌, refl, ap, subst, ◌∙◌, inl, inr, arith, lit<}
use Rattle.std.specs.Prelude.{nat_le, int_lt, unsigned_abs}
use Rattle.std.specs.Option.{unwrap_or}
use Rattle.std.proofs.Math.Nat.{mod-lt, pow-le-pow_right, pow-suc}
use Rattle.std.proofs.Math.Pow.{mod-mod-pow}
use Rattle.std.proofs.lemmas.Bool.{le-leb, lt-leb, cases_lt}
use Rattle.std.proofs.lemmas.Bool.Decides.{nat_tests}
use Rattle.std.proofs.lemmas.Nat.{pow_pos, pow-add, shr_split, shr_below, mod_low, mul-le}
use Rattle.dt_core.specs.declared.limits.TheConstants.{MAX_WIDTH}
use Rattle.dt_core.proofs.LeastLaws.{least_some}
use Rattle.bit_ops.specs.Operators.{residue, integer, extend, concat}
use Rattle.vl_value.specs.Meaning.{logarithm, repeated}
use Rattle.vl_width.specs.Known.{is_width}

pub wider : (v w : ℕ) → v ≤ w → 2 ^ v ≤ 2 ^ w
wider v w h = pow-le-pow_right (lit< tt) h

pub fits_wider : (v w n : ℕ) → v ≤ w → n < 2 ^ v → n < 2 ^ w
fits_wider v w n h fits = let p = wider v w h in omega arith

-- ---- cut to a lesser width

split_power : (t w : ℕ) → w ≤ t → 2 ^ t ≡ 2 ^ (t - w) * 2 ^ w
split_power t w h = let same : t ≡ (t - w) + w = omega arith in ap (λ k. 2 ^ k) same ∙ pow-add 2 (t - w) w

low_low : (t w n : ℕ) → w ≤ t → n % 2 ^ t % 2 ^ w ≡ n % 2 ^ w
low_low t w n h = let same : t ≡ (t - w) + w = omega arith in ap (λ k. n % 2 ^ k % 2 ^ w) same ∙ mod-mod-pow n (t - w) w

-- what stands below the greatest number of a greater width stands so far below that of the lesser
low_short : (t w d : ℕ) → w ≤ t → d < 2 ^ t → (2 ^ t - (d + 1)) % 2 ^ w ≡ (2 ^ w - 1) - d % 2 ^ w
low_short t w d h fits =
    let same : t ≡ (t - w) + w = omega arith in
    let q : ℕ = d / 2 ^ w in let r : ℕ = d % 2 ^ w in
    let whole : 2 ^ t ≡ 2 ^ (t - w) * 2 ^ w = split_power t w h in
    let parts : q * 2 ^ w + r ≡ d = shr_split d w in
    let few : r < 2 ^ w = mod-lt d (pow_pos w) in
    let within : q < 2 ^ (t - w) = shr_below d (t - w) w (subst (λ k. d < 2 ^ k) same fits) in
    let c : ℕ = 2 ^ (t - w) - (q + 1) in
    let rest : 2 ^ (t - w) ≡ c + (q + 1) = omega (arith, within) in
    let all : 2 ^ t ≡ (c + (q + 1)) * 2 ^ w = whole ∙ ap (λ k. k * 2 ^ w) rest in
    let halves : 2 ^ t - (d + 1) ≡ c * 2 ^ w + (2 ^ w - (r + 1)) = omega (arith, all, parts, few) in
    let last : 2 ^ w - (r + 1) < 2 ^ w = omega (arith, few) in
    ap (λ k. k % 2 ^ w) halves ∙ mod_low c w (2 ^ w - (r + 1)) last ∙ omega (arith, few)

-- what a whole number leaves at a width, it leaves there by way of a greater one
pub residue_low : (t w : ℕ) (z : ℤ) → w ≤ t → residue t z % 2 ^ w ≡ residue w z
residue_low t w (pos n) h = low_low t w n h
residue_low t w (negsuc n) h =
    let d : ℕ = n % 2 ^ t in
    let fits : d < 2 ^ t = mod-lt n (pow_pos t) in
    let turned : (2 ^ t - 1) - d ≡ 2 ^ t - (d + 1) = omega arith in
    ap (λ k. k % 2 ^ w) turned ∙ low_short t w d h fits ∙ ap (λ k. (2 ^ w - 1) - k) (low_low t w n h)

pub extended_low : (s : Bool) (v w n : ℕ) → w ≤ MAX_WIDTH → extend s v MAX_WIDTH n % 2 ^ w ≡ extend s v w n
extended_low s v w n h = residue_low MAX_WIDTH w (integer s v n) h

-- ---- signs

pub below_zero : (a b : ℕ) → a < b → pos a -ℤ pos b ≡ negsuc (b - (a + 1))
below_zero a zero h = absurd (omega arith)
below_zero a (suc b) h =
    let less : suc a ≤ suc b = omega arith in
    let same : suc b - suc a ≡ suc b - (a + 1) = omega arith in
    rw (le-leb (suc a) (suc b) less) (ap negsuc same)

pub twice_half : (w : ℕ) → 1 ≤ w → 2 * 2 ^ (w - 1) ≡ 2 ^ w
twice_half w one =
    let whole : suc (w - 1) ≡ w = omega arith in
    let twice : 2 ^ suc (w - 1) ≡ 2 ^ (w - 1) * 2 = pow-suc 2 (w - 1) in
    let named : 2 ^ suc (w - 1) ≡ 2 ^ w = ap (λ (k : ℕ). 2 ^ k) whole in
    omega (arith, twice, named)

-- a number whose sign bit isn't set stands for itself
pub natural : (s : Bool) (w n : ℕ) → 1 ≤ w → n < 2 ^ (w - 1) → integer s w n ≡ pos n
natural false w n one h = refl
natural true w n one h =
    let half : 2 * 2 ^ (w - 1) ≡ 2 ^ w = twice_half w one in
    let low : 2 * n < 2 ^ w = omega (arith, half) in
    rw (lt-leb (2 ^ w) (2 * n) low) refl

-- a signed one whose sign bit is set stands for less than 1
pub negative : (w n : ℕ) → 1 ≤ w → n < 2 ^ w → 2 ^ (w - 1) ≤ n → int_lt (integer true w n) (pos 1) ≡ true
negative w n one fits h =
    let half : 2 * 2 ^ (w - 1) ≡ 2 ^ w = twice_half w one in
    let high : 2 ^ w ≤ 2 * n = omega (arith, half) in
    rw (le-leb (2 ^ w) (2 * n) high, below_zero n (2 ^ w) fits) refl

-- ---- copies

pub at_least_one : (z : ℤ) → int_lt z (pos 1) ≡ false → 1 ≤ unsigned_abs z
at_least_one (pos zero) h = absurd cc
at_least_one (pos (suc n)) h = omega arith
at_least_one (negsuc n) h = absurd cc

pub no_product : (n w : ℕ) → 1 ≤ n → is_width w ≡ false → is_width (n * w) ≡ false
no_product n w some h =
    elim (cases_lt w 1) [
      | inl none ↦ let z : w ≡ 0 = omega arith in let e : n * 0 ≡ 0 = omega arith in ap (λ k. is_width (n * k)) z ∙ ap is_width e
      | inr more ↦ let m : 1 * w ≤ n * w = mul-le 1 w n w some (omega arith) in grind (arith, nat_tests, m, h)
    ]

-- ---- side by side

pub one_more : (s v x r j : ℕ) → concat r (concat v s x) j ≡ concat (v + r) s (concat r x j)
one_more s v x r j = rw (pow-add 2 v r) (omega arith)

pub first_copy : (w a : ℕ) → a ≡ repeated 1 w a
first_copy w a = omega arith

-- ---- logarithms

pub least_power : (w n k : ℕ) → k ≤ w → nat_le n (2 ^ k) ≡ true → ((j : ℕ) → j < k → nat_le n (2 ^ j) ≡ false) → k ≡ logarithm w n
least_power w n k h t below =
    ap (λ o. unwrap_or o 0) (least_some (λ j. nat_le n (2 ^ j)) (suc w) k (omega arith) t below)
