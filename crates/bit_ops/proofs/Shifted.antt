-- Shifts as machine numbers compute them: the distance is cut at 128.
use Rattle.std.proofs.Common.{◌≡◌, ℕ, suc, ◌+◌, ◌-◌, ◌*◌, ◌/◌, ◌%◌, ◌^◌, ◌<◌, ◌≤◌, min, Bool, true, false, ℤ, pos, negsuc, unsigned_abs, sym, ap, ◌∙◌, inl, inr, arith}
use Rattle.std.specs.Prelude.{int_lt}
use Rattle.std.proofs.Math.Nat.{mod-eq_of_lt, div-le_self}
use Rattle.std.proofs.lemmas.Bool.{cases_lt, ltb-true}
use Rattle.bit_ops.specs.Operators.{residue, integer, floor_div, shift_left, arithmetic_right, shift_right_signed, select}
use Rattle.bit_ops.specs.Reading.{is_negative, turned}
use Rattle.bit_ops.proofs.Residues.{low_low, left_min, right_min, wider}
use Rattle.bit_ops.proofs.Signs.{integer_low, integer_high}

pub left_is : (t w n d : ℕ) → w ≤ t → n * 2 ^ min d t % 2 ^ t % 2 ^ w ≡ shift_left w n d
left_is t w n d h = low_low t w (n * 2 ^ min d t) h ∙ left_min t w n d h ∙ sym (left_min w w n d (omega arith))

right_both : (t w n d : ℕ) → w ≤ t → n < 2 ^ w → n / 2 ^ min d t ≡ n / 2 ^ min d w
right_both t w n d h fits =
    let wide : 2 ^ w ≤ 2 ^ t = wider w t h in
    right_min t n d (omega (arith, wide, fits)) ∙ sym (right_min w n d fits)

-- a positive number takes zeros; a negative one is turned, takes zeros, and is turned again
right_low : (t w n d : ℕ) → w ≤ t → n < 2 ^ w → 2 * n < 2 ^ w → n / 2 ^ min d t ≡ shift_right_signed w n d
right_low t w n d h fits small =
    let less : n / 2 ^ min d w ≤ n = div-le_self n (2 ^ min d w) in
    let few : n / 2 ^ min d w < 2 ^ w = omega (arith, less, fits) in
    right_both t w n d h fits ∙ sym (mod-eq_of_lt few) ∙ sym (ap (λ z. residue w (floor_div z (2 ^ min d w))) (integer_low true w n small))

right_high : (t w n d : ℕ) → w ≤ t → n < 2 ^ w → 2 ^ w ≤ 2 * n → (2 ^ w - 1) - ((2 ^ w - 1) - n) / 2 ^ min d t ≡ shift_right_signed w n d
right_high t w n d h fits high =
    let m : ℕ = 2 ^ w - (n + 1) in
    let same : (2 ^ w - 1) - n ≡ 2 ^ w - (n + 1) = omega arith in
    let inside : 2 ^ w - (n + 1) < 2 ^ w = omega (arith, fits) in
    let less : m / 2 ^ min d w ≤ m = div-le_self m (2 ^ min d w) in
    let few : m / 2 ^ min d w < 2 ^ w = omega (arith, less, inside) in
    ap (λ k. (2 ^ w - 1) - k / 2 ^ min d t) same ∙ ap (λ k. (2 ^ w - 1) - k) (right_both t w m d h inside ∙ sym (mod-eq_of_lt few))
    ∙ sym (ap (λ z. residue w (floor_div z (2 ^ min d w))) (integer_high w n fits high))

pub right_is : (t w n d : ℕ) (s : Bool) → w ≤ t → n < 2 ^ w
    → turned (is_negative (integer s w n)) w (turned (is_negative (integer s w n)) w n / 2 ^ min d t) ≡ arithmetic_right s w n d
right_is t w n d false h fits = right_both t w n d h fits
right_is t w n d true h fits =
    elim (cases_lt (2 * n) (2 ^ w)) [
      | inl small ↦
          ap (λ z. turned (is_negative z) w (turned (is_negative z) w n / 2 ^ min d t)) (integer_low true w n small) ∙ right_low t w n d h fits small
      | inr high ↦
          ap (λ z. turned (is_negative z) w (turned (is_negative z) w n / 2 ^ min d t)) (integer_high w n fits high) ∙ right_high t w n d h fits high
    ]

-- ---- a place by its side and its distance

pub place_below : (z : ℤ) (d : ℕ) → int_lt z (pos 0) ≡ true → d ≡ unsigned_abs z → (z ≡ negsuc (d - 1)) × (0 < d)
place_below (pos a) d e h = let none : a < 0 = ltb-true a 0 e in absurd (omega arith)
place_below (negsuc a) d e h = (ap negsuc (omega arith), omega arith)

pub place_from_zero : (z : ℤ) (d : ℕ) → int_lt z (pos 0) ≡ false → d ≡ unsigned_abs z → z ≡ pos d
place_from_zero (pos a) d e h = ap pos (sym h)
place_from_zero (negsuc a) d e h = cc

-- ---- the bits from a place upward

pub select_left : (t w n d : ℕ) (z : ℤ) → w ≤ t → z ≡ negsuc (d - 1) → 0 < d → n * 2 ^ min d t % 2 ^ t % 2 ^ w ≡ select z w n
select_left t w n d z h e some =
    let same : d ≡ suc (d - 1) = omega arith in
    low_low t w (n * 2 ^ min d t) h ∙ left_min t w n d h ∙ ap (λ k. n * 2 ^ k % 2 ^ w) same ∙ sym (ap (λ x. select x w n) e)

pub select_right : (t w n d : ℕ) (z : ℤ) → n < 2 ^ t → z ≡ pos d → n / 2 ^ min d t % 2 ^ w ≡ select z w n
select_right t w n d z fits e = ap (λ k. k % 2 ^ w) (right_min t n d fits) ∙ sym (ap (λ x. select x w n) e)
