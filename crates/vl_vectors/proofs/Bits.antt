-- Bits of a signal's number, from a place upward.
use Rattle.std.proofs.Common.{◌≡◌, ℕ, suc, ◌+◌, ◌-◌, ◌*◌, ◌/◌, ◌%◌, ◌<◌, ◌≤◌, ◌^◌, false, sym, ap, ◌∙◌, subst, arith, inl, inr}
use Rattle.std.specs.Prelude.{pos, negsuc, min}
use Rattle.std.proofs.Math.Nat.{mod-eq_of_lt, div-eq_of_lt, mul-mod_left, mul-div_cancel, div-one}
use Rattle.std.proofs.Math.Arith.{mod-mul}
use Rattle.std.proofs.Math.Pow.{mod-mod-pow}
use Rattle.std.proofs.lemmas.Bool.{cases_lt}
use Rattle.std.proofs.lemmas.Nat.{pow_pos, pow-add, shr_below}
use Rattle.bit_ops.specs.Operators.{select, extend, concat}
use Rattle.vl_width.proofs.Numbers.{wider}

-- a number within a width is its own low bits, also at a greater one
low_same : (w v n : ℕ) → n < 2 ^ w → w ≤ v → n % 2 ^ v ≡ n
low_same w v n below wide = let more : 2 ^ w ≤ 2 ^ v = wider w v wide in mod-eq_of_lt (omega (arith, below, more))

low_low : (t w n : ℕ) → w ≤ t → n % 2 ^ t % 2 ^ w ≡ n % 2 ^ w
low_low t w n h = let same : t ≡ (t - w) + w = omega (arith, h) in ap (λ k. n % 2 ^ k % 2 ^ w) same ∙ mod-mod-pow n (t - w) w

low_far : (w d n : ℕ) → w ≤ d → n * 2 ^ d % 2 ^ w ≡ 0
low_far w d n h =
    let same : d ≡ (d - w) + w = omega (arith, h) in
    let whole : 2 ^ d ≡ 2 ^ (d - w) * 2 ^ w = ap (λ k. 2 ^ k) same ∙ pow-add 2 (d - w) w in
    let moved : n * 2 ^ d ≡ (n * 2 ^ (d - w)) * 2 ^ w = ap (λ k. n * k) whole ∙ omega arith in
    ap (λ k. k % 2 ^ w) moved ∙ mul-mod_left (n * 2 ^ (d - w)) (2 ^ w)

-- above the number there is nothing
pub all_above : (width place count n : ℕ) → width ≤ place → n < 2 ^ width → 0 ≡ select (pos place) count n
all_above width place count n h fits =
    let more : 2 ^ width ≤ 2 ^ place = wider width place h in
    let far : n / 2 ^ place ≡ 0 = div-eq_of_lt (omega (arith, more, fits)) in
    sym (ap (λ k. k % 2 ^ count) far ∙ mod-eq_of_lt (pow_pos count))

-- the bits that are there, with zeros above them
pub some_above : (width place count n m : ℕ) → place < width → m ≡ min count (width - place) → n < 2 ^ width
    → extend false m count (select (pos place) m n) ≡ select (pos place) count n
some_above width place count n m inside few fits = elim (cases_lt m count) [
  | inl less ↦
      let all : m ≡ width - place = omega (arith, few, less) in
      let same : width ≡ m + place = omega (arith, all, inside) in
      let short : n / 2 ^ place < 2 ^ m = shr_below n m place (subst (λ k. n < 2 ^ k) same fits) in
      ap (λ k. k % 2 ^ count) (mod-eq_of_lt short)
  | inr more ↦
      let whole : m ≡ count = omega (arith, few, more) in
      low_low m count (n / 2 ^ place) (omega (arith, whole))
]

-- ---- below the number there is nothing

pub all_below : (under count n : ℕ) → 1 ≤ under → count ≤ under → 0 ≡ select (negsuc (under - 1)) count n
all_below under count n some h =
    let same : suc (under - 1) ≡ under = omega (arith, some) in
    sym (ap (λ k. n * 2 ^ k % 2 ^ count) same ∙ low_far count under n h)

-- bits moved up by a place are the low bits of what was moved
moved : (u c n : ℕ) → n % 2 ^ c * 2 ^ u ≡ n * 2 ^ u % 2 ^ (c + u)
moved u c n =
    let one : n * 2 ^ u / 2 ^ u ≡ n = mul-div_cancel n (pow_pos u) in
    let none : n * 2 ^ u % 2 ^ u ≡ 0 = mul-mod_left n (2 ^ u) in
    let more : n % 2 ^ c * 2 ^ u ≡ n % 2 ^ c * 2 ^ u + 0 = omega arith in
    more ∙ ap (λ k. n % 2 ^ c * 2 ^ u + k) (sym none) ∙ ap (λ k. k % 2 ^ c * 2 ^ u + n * 2 ^ u % 2 ^ u) (sym one)
    ∙ sym (mod-mul (n * 2 ^ u) (pow_pos c) (pow_pos u)) ∙ ap (λ k. n * 2 ^ u % k) (sym (pow-add 2 c u))

pub some_below : (under count n : ℕ) → 1 ≤ under → under < count
    → concat under (select (pos 0) (count - under) n) 0 ≡ select (negsuc (under - 1)) count n
some_below under count n some less =
    let same : suc (under - 1) ≡ under = omega (arith, some) in
    let whole : (count - under) + under ≡ count = omega (arith, less) in
    let one : n / 2 ^ 0 ≡ n = div-one n in
    let none : n % 2 ^ (count - under) * 2 ^ under + 0 ≡ n % 2 ^ (count - under) * 2 ^ under = omega arith in
    ap (λ k. k % 2 ^ (count - under) * 2 ^ under + 0) one ∙ none
    ∙ moved under (count - under) n ∙ ap (λ k. n * 2 ^ under % 2 ^ k) whole
    ∙ ap (λ k. n * 2 ^ k % 2 ^ count) (sym same)
