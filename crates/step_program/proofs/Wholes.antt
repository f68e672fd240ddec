-- Whole numbers as indices, and places that are far away.
use Rattle.std.proofs.Common.{◌≡◌, ℕ, zero, suc, ◌+◌, ◌-◌, ◌*◌, ◌%◌, ◌^◌, ◌<◌, ◌≤◌, Bool, true, false, List, ℤ, pos, negsuc, ◌-ℤ◌, refl, sym, ap, ◌∙◌, arith, lit<}
use Rattle.std.proofs.Math.Nat.{mod-eq_of_lt, mod-lt, div-eq_of_lt, div-one, pow-le-pow_right}
use Rattle.std.proofs.lemmas.Bool.{le-leb, lt-leb}
use Rattle.std.proofs.lemmas.Nat.{pow_pos, pow-add, mod_low}
use Rattle.bit_ops.specs.Operators.{integer, select, insert}
use Rattle.bit_ops.specs.Laws.{BesideLaw}
use Rattle.step_program.specs.Values.{word_at}
use Rattle.step_program.specs.Running.{IsFar}

-- ---- differences

below_zero : (a b : ℕ) → a < b → pos a -ℤ pos b ≡ negsuc (b - (a + 1))
below_zero a zero h = absurd (omega arith)
below_zero a (suc b) h =
    let less : suc a ≤ suc b = omega arith in
    let same : suc b - suc a ≡ suc b - (a + 1) = omega arith in
    rw (le-leb (suc a) (suc b) less) (ap negsuc same)

above_zero : (a b : ℕ) → b ≤ a → pos a -ℤ pos b ≡ pos (a - b)
above_zero a zero h = ap pos (omega arith)
above_zero a (suc b) h = let more : suc b < suc a = omega arith in rw (lt-leb (suc a) (suc b) more) refl

-- ---- what a vector stands for

pub not_below : (s : Bool) (w n : ℕ) → (s ≡ true → 2 * n < 2 ^ w) → pos n ≡ integer s w n
not_below false w n h = refl
not_below true w n h = rw (lt-leb (2 ^ w) (2 * n) (h refl)) refl

pub is_below : (s : Bool) (w n before : ℕ) → s ≡ true → n < 2 ^ w → before ≡ (2 ^ w - 1) - n → before < n
    → negsuc before ≡ integer s w n
is_below false w n before e fits is h = absurd cc
is_below true w n before e fits is h =
    let high : 2 ^ w ≤ 2 * n = omega arith in
    let same : before ≡ 2 ^ w - (n + 1) = omega arith in
    rw (le-leb (2 ^ w) (2 * n) high) (ap negsuc same ∙ sym (below_zero n (2 ^ w) fits))

-- ---- words

pub word_from : (xs : List ℕ) (k l : ℕ) → l ≤ k → word_at xs (pos (k - l)) ≡ word_at xs (pos k -ℤ pos l)
word_from xs k l h = ap (word_at xs) (sym (above_zero k l h))

pub word_under : (xs : List ℕ) (k l : ℕ) → k < l → 0 ≡ word_at xs (pos k -ℤ pos l)
word_under xs k l h = ap (word_at xs) (sym (below_zero k l h))

pub word_below : (xs : List ℕ) (k l : ℕ) → 0 ≡ word_at xs (negsuc k -ℤ pos l)
word_below xs k zero = rw (le-leb 1 (suc k) (omega arith)) refl
word_below xs k (suc l) = refl

-- ---- far places

wider : (v w : ℕ) → v ≤ w → 2 ^ v ≤ 2 ^ w
wider v w h = pow-le-pow_right (lit< tt) h

multiple : (a k w : ℕ) → w ≤ k → a * 2 ^ k % 2 ^ w ≡ 0
multiple a k w h =
    let same : k ≡ (k - w) + w = omega arith in
    let split : 2 ^ k ≡ 2 ^ (k - w) * 2 ^ w = ap (λ i. 2 ^ i) same ∙ pow-add 2 (k - w) w in
    let moved : a * 2 ^ k ≡ a * (2 ^ (k - w) * 2 ^ w) = ap (λ i. a * i) split in
    let whole : a * 2 ^ k ≡ a * 2 ^ (k - w) * 2 ^ w + 0 = omega (arith, moved) in
    ap (λ i. i % 2 ^ w) whole ∙ mod_low (a * 2 ^ (k - w)) w 0 (pow_pos w)

pub far_select : (z : ℤ) (v w a : ℕ) → IsFar z → v ≤ 128 → w ≤ 128 → a < 2 ^ v → 0 ≡ select z w a
far_select (pos k) v w a far narrow few fits =
    let wide : 2 ^ v ≤ 2 ^ k = wider v k (omega arith) in
    let low : a < 2 ^ k = omega (arith, wide, fits) in
    sym (ap (λ i. i % 2 ^ w) (div-eq_of_lt low) ∙ mod-eq_of_lt (pow_pos w))
far_select (negsuc k) v w a far narrow few fits = let h : w ≤ suc k = omega arith in sym (multiple a (suc k) w h)

-- all bits of a number
all_bits : (k x : ℕ) → x < 2 ^ k → select (pos 0) k x ≡ x
all_bits k x fits = ap (λ i. i % 2 ^ k) (div-one x) ∙ mod-eq_of_lt fits

pub far_insert : (z : ℤ) (v w b a : ℕ) → BesideLaw → IsFar z → v ≤ 128 → w ≤ 128 → a < 2 ^ v → a ≡ insert v z w b a
far_insert (pos k) v w b a law far few part fits =
    let wide : 2 ^ v ≤ 2 ^ k = wider v k (omega arith) in
    let put : insert v (pos k) w b a < 2 ^ v = mod-lt _ (pow_pos v) in
    sym (all_bits k a (omega (arith, wide, fits))) ∙ sym (law v w k b a fits).below
    ∙ all_bits k (insert v (pos k) w b a) (omega (arith, wide, put))
far_insert (negsuc k) v w b a law far few part fits =
    let none : w - suc k ≡ 0 = omega arith in
    let put : insert v (negsuc k) w b a < 2 ^ v = mod-lt _ (pow_pos v) in
    sym (all_bits v a fits) ∙ ap (λ i. select (pos i) v a) (sym none) ∙ sym ((law v w k b a fits).above_low v)
    ∙ ap (λ i. select (pos i) v (insert v (negsuc k) w b a)) none ∙ all_bits v (insert v (negsuc k) w b a) put
