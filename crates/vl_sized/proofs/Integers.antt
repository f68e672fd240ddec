-- Whole numbers by sign and size.
use Rattle.std.proofs.Common.{◌≡◌, refl, sym, ap, ◌∙◌, ℕ, zero, suc, ◌+◌, ◌-◌, ◌*◌, ◌^◌, ◌<◌, ◌≤◌, Bool, true, false, ℤ, pos, negsuc, ◌-ℤ◌, inl, inr, arith, if◌then◌else◌, Some, None}
use Rattle.std.specs.Prelude.{int_lt, unsigned_abs, ◌||◌, ◌==◌}
use Rattle.std.proofs.lemmas.Bool.{le-leb, lt-leb, cases_lt}
use Rattle.std.proofs.lemmas.Bool.Decides.{nat_tests}
use Rattle.std.proofs.Math.IntN.{sub_ℕ}
use Rattle.dt_core.specs.declared.limits.TheConstants.{MAX_WIDTH}
use Rattle.bit_ops.specs.Operators.{integer}
use Rattle.vl_width.specs.Known.{is_width}
use Rattle.vl_width.proofs.Numbers.{below_zero, twice_half}
use Rattle.vl_sized.specs.Sensed.{bits_told, bits_between}
use Rattle.vl_sized.proofs.Widths.{is_enough, is_too_many}

-- what stands for a number of a width
pub high : (w n : ℕ) → 1 ≤ w → n < 2 ^ w → 2 ^ (w - 1) ≤ n → negsuc ((2 ^ w - 1) - n) ≡ integer true w n
high w n one fits h =
    let half : 2 * 2 ^ (w - 1) ≡ 2 ^ w = twice_half w one in
    let above : 2 ^ w ≤ 2 * n = omega (arith, half) in
    let same : (2 ^ w - 1) - n ≡ 2 ^ w - (n + 1) = omega arith in
    rw (le-leb (2 ^ w) (2 * n) above, below_zero n (2 ^ w) fits) (ap negsuc same)

-- ---- tests

pub below_one : (b : Bool) (n : ℕ) → (b || (n == 0)) ≡ int_lt (if b then negsuc n else pos n) (pos 1)
below_one true n = refl
below_one false n = grind (arith, nat_tests)

-- ---- how far they are apart

difference : (a b : ℕ) → unsigned_abs (sub_ℕ a b) ≡ (a - b) + (b - a)
difference a b =
    elim (cases_lt a b) [
      | inl less ↦ rw (le-leb (suc a) b less) (omega (arith, less))
      | inr more ↦ let h : b < suc a = omega (arith, more) in rw (lt-leb (suc a) b h) (omega (arith, more))
    ]

pub apart_above : (a b : ℕ) → unsigned_abs (pos a -ℤ pos b) ≡ (a - b) + (b - a)
apart_above a zero = omega arith
apart_above a (suc b) = difference a (suc b)

pub apart_below : (a b : ℕ) → unsigned_abs (negsuc a -ℤ negsuc b) ≡ (a - b) + (b - a)
apart_below a b = difference (suc b) (suc a) ∙ turned a b
  where
    turned : (a b : ℕ) → (suc b - suc a) + (suc a - suc b) ≡ (a - b) + (b - a)
    turned a b = omega arith

pub apart_down : (a b : ℕ) → unsigned_abs (pos a -ℤ negsuc b) ≡ (a + b) + 1
apart_down a b = omega arith

pub apart_up : (a b : ℕ) → unsigned_abs (negsuc a -ℤ pos b) ≡ (a + b) + 1
apart_up a zero = difference zero (suc a) ∙ one_more a
  where
    one_more : (a : ℕ) → (0 - suc a) + (suc a - 0) ≡ (a + 0) + 1
    one_more a = omega arith
apart_up a (suc b) = omega arith

-- ---- bits

pub told : (z : ℤ) (n : ℕ) → z ≡ pos n → 1 ≤ n → n ≤ MAX_WIDTH → Some n ≡ bits_told z
told z n e one most = rw e (told_natural n one most)
  where
    told_natural : (n : ℕ) → 1 ≤ n → n ≤ MAX_WIDTH → Some n ≡ bits_told (pos n)
    told_natural n one most =
        let low : int_lt (pos n) (pos 1) ≡ false = lt-leb (suc n) 1 (omega (arith, one)) in
        rw (low, is_enough n one most) refl

pub untold : (z : ℤ) → MAX_WIDTH < unsigned_abs z → None ≡ bits_told z
untold z h = by_test (int_lt z (pos 1)) (is_width (unsigned_abs z)) (unsigned_abs z) (is_too_many (unsigned_abs z) h)
  where
    by_test : (x y : Bool) (n : ℕ) → y ≡ false → None ≡ (if x then None else (if y then Some n else None))
    by_test true y n e = refl
    by_test false true n e = absurd cc
    by_test false false n e = refl

pub untold_low : (z : ℤ) → int_lt z (pos 1) ≡ true → None ≡ bits_told z
untold_low z h = ap (λ x. if x then None else (if is_width (unsigned_abs z) then Some (unsigned_abs z) else None)) (sym h)

pub between : (a b : ℤ) (d : ℕ) → d ≡ unsigned_abs (a -ℤ b) → d < MAX_WIDTH → Some (d + 1) ≡ bits_between a b
between a b d e h = rw (sym e, is_enough (d + 1) (omega arith) (omega (arith, h))) refl

pub too_far : (a b : ℤ) → MAX_WIDTH ≤ unsigned_abs (a -ℤ b) → None ≡ bits_between a b
too_far a b h = rw (is_too_many (unsigned_abs (a -ℤ b) + 1) (omega (arith, h))) refl
