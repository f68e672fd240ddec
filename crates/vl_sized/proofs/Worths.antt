-- Numbers as vectors have them: extended, cut out, side by side.
use Rattle.std.proofs.Common.{◌≡◌, refl, sym, ap, ◌∙◌, subst, ℕ, zero, suc, ◌+◌, ◌-◌, ◌*◌, ◌/◌, ◌%◌, ◌^◌, ◌<◌, ◌≤◌, min, Bool, true, false, ℤ, pos, negsuc, ◌-ℤ◌, ◌+ℤ◌, inl, inr, arith, lit<, if◌then◌else◌}
use Rattle.std.specs.Prelude.{nat_le, unsigned_abs}
use Rattle.std.proofs.Math.Nat.{mod-eq_of_lt, mod-lt, mod-add-mod, mul-add-mod_self_right, div-eq_of_lt, pow-le-pow_right}
use Rattle.std.proofs.lemmas.Int.{ints}
use Rattle.std.proofs.lemmas.Bool.{cases_lt, le-leb, lt-leb}
use Rattle.std.proofs.lemmas.Nat.{pow_pos, pow-add, mod_low, mul-mod_first}
use Rattle.std.proofs.Math.Pow.{mod-mod-pow}
use Rattle.dt_core.specs.declared.limits.TheConstants.{MAX_BOUND, MAX_WIDTH}
use Rattle.bit_ops.specs.Operators.{low, extend, select, concat}
use Rattle.vl_value.specs.Things.{Shape, place_of}
use Rattle.vl_value.specs.Meaning.{repeated}
use Rattle.vl_width.proofs.Numbers.{one_more}

-- ---- numbers and widths

above_zero : (a b : ℕ) → b ≤ a → pos a -ℤ pos b ≡ pos (a - b)
above_zero a zero h = ap pos (omega arith)
above_zero a (suc b) h = let more : suc b < suc a = omega arith in rw (lt-leb (suc a) (suc b) more) refl

pub low_low : (t w n : ℕ) → w ≤ t → n % 2 ^ t % 2 ^ w ≡ n % 2 ^ w
low_low t w n h = let same : t ≡ (t - w) + w = omega arith in ap (λ k. n % 2 ^ k % 2 ^ w) same ∙ mod-mod-pow n (t - w) w

wider : (v w : ℕ) → v ≤ w → 2 ^ v ≤ 2 ^ w
wider v w h = pow-le-pow_right (lit< tt) h

high_far : (w d n : ℕ) → w ≤ d → n < 2 ^ w → n / 2 ^ d ≡ 0
high_far w d n h fits = let wide : 2 ^ w ≤ 2 ^ d = wider w d h in div-eq_of_lt (omega (arith, wide, fits))

low_far : (w k a : ℕ) → w ≤ k → a * 2 ^ k % 2 ^ w ≡ 0
low_far w k a h =
    let same : k ≡ (k - w) + w = omega arith in
    let split : 2 ^ k ≡ 2 ^ (k - w) * 2 ^ w = ap (λ i. 2 ^ i) same ∙ pow-add 2 (k - w) w in
    let moved : a * 2 ^ k ≡ a * (2 ^ (k - w) * 2 ^ w) = ap (λ i. a * i) split in
    let whole : a * 2 ^ k ≡ a * 2 ^ (k - w) * 2 ^ w + 0 = omega (arith, moved) in
    ap (λ i. i % 2 ^ w) whole ∙ mod_low (a * 2 ^ (k - w)) w 0 (pow_pos w)

-- ---- extended

-- a number of a width that has more bits than 128 isn't one of 128 bits
pub narrow : (w n : ℕ) → w ≤ 128 → 2 ^ w ≤ n → n < 2 ^ 128 → w < 128
narrow w n h a b =
    elim (cases_lt w 128) [
      | inl less ↦ less
      | inr more ↦ let same : w ≡ 128 = omega arith in let e : 2 ^ w ≡ 2 ^ 128 = ap (λ k. 2 ^ k) same in absurd (omega (arith, e, a, b))
    ]

-- a number of more bits than its width, by its sign
pub beyond_signed : (v w n : ℕ) → 2 ^ v ≤ n → (n - 2 ^ v) % 2 ^ w ≡ extend true v w n
beyond_signed v w n h =
    let high : 2 ^ v ≤ 2 * n = omega (arith, h) in
    rw (le-leb (2 ^ v) (2 * n) high, above_zero n (2 ^ v) h) refl

-- ---- cut out

-- a place from which so many bits upward all lie outside
abbrev pub IsOff : ℕ → ℤ → Type 0
IsOff n (pos k) = 128 ≤ k
IsOff n (negsuc k) = n ≤ suc k

pub off_select : (n v : ℕ) (z : ℤ) → IsOff n z → v < 2 ^ 128 → select z n v ≡ 0
off_select n v (pos k) h fits = ap (λ i. i % 2 ^ n) (high_far 128 k v h fits) ∙ mod-eq_of_lt (pow_pos n)
off_select n v (negsuc k) h fits = low_far n (suc k) v h

down_up : (a r : ℕ) → r ≤ a → pos a -ℤ pos r ≡ pos (a - r)
down_up a r h = above_zero a r h

down_below : (a r : ℕ) → negsuc a -ℤ pos r ≡ negsuc (a + r)
down_below a r = omega (arith, ints)

up_above : (a r n : ℕ) → r + 2 ≤ a + n → pos r -ℤ (pos a +ℤ (pos n -ℤ pos 1)) ≡ negsuc ((a + n) - (r + 2))
up_above a r n h = omega (arith, ints)

up_below : (a r n : ℕ) → n ≤ a → pos r -ℤ (negsuc a +ℤ (pos n -ℤ pos 1)) ≡ pos ((r + a + 2) - n)
up_below a r n h = omega (arith, ints)

down_off : (z : ℤ) (r n : ℕ) → r ≤ MAX_BOUND → n < 2 ^ 32 → 2 ^ 39 ≤ unsigned_abs z → IsOff n (z -ℤ pos r)
down_off (pos a) r n hr hn h =
    let some : r ≤ a = omega (arith, hr, h) in
    subst (IsOff n) (sym (down_up a r some)) (omega (arith, hr, h))
down_off (negsuc a) r n hr hn h = subst (IsOff n) (sym (down_below a r)) (omega (arith, hn, h))

up_off : (z : ℤ) (r n : ℕ) → r ≤ MAX_BOUND → n < 2 ^ 32 → 2 ^ 39 ≤ unsigned_abs z → IsOff n (pos r -ℤ (z +ℤ (pos n -ℤ pos 1)))
up_off (pos a) r n hr hn h =
    let some : r + 2 ≤ a + n = omega (arith, hr, h) in
    subst (IsOff n) (sym (up_above a r n some)) (omega (arith, hr, h))
up_off (negsuc a) r n hr hn h =
    let some : n ≤ a = omega (arith, hn, h) in
    subst (IsOff n) (sym (up_below a r n some)) (omega (arith, hn, h))

pub place_off : (b : Bool) (z : ℤ) (r n : ℕ) → r ≤ MAX_BOUND → n < 2 ^ 32 → 2 ^ 39 ≤ unsigned_abs z
    → IsOff n (if b then z -ℤ pos r else pos r -ℤ (z +ℤ (pos n -ℤ pos 1)))
place_off true z r n hr hn h = down_off z r n hr hn h
place_off false z r n hr hn h = up_off z r n hr hn h

-- nothing is read far away
pub far_cut : (sh : Shape) (z : ℤ) (n w v : ℕ) → sh.right ≤ MAX_BOUND → n < 2 ^ 32 → 2 ^ 39 ≤ unsigned_abs z → v < 2 ^ 128
    → low w 0 ≡ low w (select (place_of sh z n) n v)
far_cut sh z n w v hr hn h fits =
    ap (low w) (sym (off_select n v (place_of sh z n) (place_off (nat_le sh.right sh.left) z sh.right n hr hn h) fits))

low_least : (x c w : ℕ) → x % 2 ^ min c w % 2 ^ w ≡ x % 2 ^ c % 2 ^ w
low_least x c w =
    elim (cases_lt c w) [
      | inl less ↦ let same : min c w ≡ c = omega (arith, less) in ap (λ k. x % 2 ^ k % 2 ^ w) same
      | inr more ↦
          let same : min c w ≡ w = omega (arith, more) in
          ap (λ k. x % 2 ^ k % 2 ^ w) same ∙ low_low w w x (omega arith) ∙ sym (low_low c w x (omega (arith, more)))
    ]

-- no more bits than a width are read
pub few_bits : (z : ℤ) (c w v : ℕ) → low w (select z (min c w) v) ≡ low w (select z c v)
few_bits (pos k) c w v = low_least (v / 2 ^ k) c w
few_bits (negsuc k) c w v = low_least (v * 2 ^ suc k) c w

no_bit : (x : ℕ) → x % 2 ^ 0 ≡ 0
no_bit x = let less : x % 2 ^ 0 < 2 ^ 0 = mod-lt x (pow_pos 0) in omega (arith, less)

none_selected : (z : ℤ) (v : ℕ) → select z 0 v ≡ 0
none_selected (pos k) v = no_bit (v / 2 ^ k)
none_selected (negsuc k) v = no_bit (v * 2 ^ suc k)

pub no_bits_read : (z : ℤ) (c w v : ℕ) → 1 ≤ w → min c w ≡ 0 → low w 0 ≡ low w (select z c v)
no_bits_read z c w v one h =
    let none : c ≡ 0 = omega (arith, one, h) in
    sym (ap (low w) (ap (λ k. select z k v) none ∙ none_selected z v))

-- ---- side by side

cut_first : (x a j k : ℕ) → (x % k * a + j) % k ≡ (x * a + j) % k
cut_first x a j k = sym (mod-add-mod (x % k * a) k j) ∙ ap (λ i. (i + j) % k) (mul-mod_first x a k) ∙ mod-add-mod (x * a) k j

-- one copy more
pub copy_more : (n w a v : ℕ) → v ≡ low MAX_WIDTH (repeated n w a) → low MAX_WIDTH (concat w v a) ≡ low MAX_WIDTH (repeated (n + 1) w a)
copy_more n w a v e =
    let same : suc n ≡ n + 1 = omega arith in
    ap (λ i. low MAX_WIDTH (concat w i a)) e ∙ cut_first (repeated n w a) (2 ^ w) a (2 ^ MAX_WIDTH) ∙ ap (λ k. low MAX_WIDTH (repeated k w a)) same

-- one part more, where those behind it are left
pub part_more : (v w x r j whole new : ℕ) → new ≡ low MAX_WIDTH (concat w v x) → low MAX_WIDTH (concat (w + r) v (concat r x j)) ≡ whole
    → low MAX_WIDTH (concat r new j) ≡ whole
part_more v w x r j whole new e h =
    ap (λ i. low MAX_WIDTH (concat r i j)) e ∙ cut_first (concat w v x) (2 ^ r) j (2 ^ MAX_WIDTH)
    ∙ ap (low MAX_WIDTH) (one_more v w x r j) ∙ h

-- what stands to the left of 128 bits
skipped : (hi w lo : ℕ) → 128 ≤ w → (hi * 2 ^ w + lo) % 2 ^ 128 ≡ lo % 2 ^ 128
skipped hi w lo h =
    let same : w ≡ (w - 128) + 128 = omega (arith, h) in
    let split : 2 ^ w ≡ 2 ^ (w - 128) * 2 ^ 128 = ap (λ k. 2 ^ k) same ∙ pow-add 2 (w - 128) 128 in
    let moved : hi * 2 ^ w ≡ hi * (2 ^ (w - 128) * 2 ^ 128) = ap (λ k. hi * k) split in
    let whole : hi * 2 ^ w ≡ hi * 2 ^ (w - 128) * 2 ^ 128 = omega (arith, moved) in
    ap (λ k. (k + lo) % 2 ^ 128) whole ∙ mul-add-mod_self_right (hi * 2 ^ (w - 128)) (2 ^ 128) lo

wide_copies : (n w j : ℕ) → 128 ≤ w → repeated n 128 (j % 2 ^ 128 % 2 ^ 128) % 2 ^ 128 ≡ repeated n w (j % 2 ^ w) % 2 ^ 128
wide_copies zero w j h = refl
wide_copies (suc n) w j h =
    skipped (repeated n 128 (j % 2 ^ 128 % 2 ^ 128)) 128 (j % 2 ^ 128 % 2 ^ 128) (omega arith)
    ∙ low_low 128 128 (j % 2 ^ 128) (omega arith) ∙ low_low 128 128 j (omega arith)
    ∙ sym (skipped (repeated n w (j % 2 ^ w)) w (j % 2 ^ w) h ∙ low_low w 128 j h)

-- copies of parts, of which as many bits are known as a vector reaches
pub copies_low : (n w j v u : ℕ) → v ≡ min w MAX_WIDTH → u ≡ low MAX_WIDTH j
    → low MAX_WIDTH (repeated n v (low v u)) ≡ low MAX_WIDTH (repeated n w (low w j))
copies_low n w j v u e k =
    elim (cases_lt 128 w) [
      | inl wide ↦
          let same : v ≡ 128 = omega (arith, e, wide) in
          (λ i. low MAX_WIDTH (repeated n (same i) (low (same i) (k i)))) ∙ wide_copies n w j (omega (arith, wide))
      | inr few ↦
          let same : v ≡ w = omega (arith, e, few) in
          (λ i. low MAX_WIDTH (repeated n (same i) (low (same i) (k i)))) ∙ ap (λ i. low MAX_WIDTH (repeated n w i)) (low_low 128 w j few)
    ]

-- nothing is left
pub ends : (v whole : ℕ) → low MAX_WIDTH (concat 0 v 0) ≡ whole → v < 2 ^ 128 → v ≡ whole
ends v whole h fits =
    let all : v * 2 ^ 0 + 0 ≡ v = omega arith in
    sym (ap (λ k. k % 2 ^ 128) all ∙ mod-eq_of_lt fits) ∙ h
