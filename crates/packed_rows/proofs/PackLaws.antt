-- Values that are put into words one after another.
use Rattle.std.proofs.Common.{◌≡◌, ℕ, zero, suc, ◌+◌, ◌-◌, ◌*◌, ◌/◌, ◌%◌, ◌^◌, ◌<◌, ◌≤◌, List, [], ◌∷◌, ◌++◌, length, take, drop, set, get_or, refl, sym, ap, subst, ◌∙◌, arith, pow_pos, lit<}
use Rattle.std.specs.Prelude.{slice_index}
use Rattle.std.specs.List.{sum}
use Rattle.std.proofs.Math.Nat.{add-mul-div_left, add-mul-mod_self_left, mod-eq_of_lt, mod-lt, div-eq_of_lt, pow-le-pow_right}
use Rattle.std.proofs.lemmas.Nat.{pow-add, mul-add-lt, shr_below, shr_split, shr-shr, mod-pow-add, mod_below}
use Rattle.std.proofs.lemmas.List.{take_more_set, length-take-le, length-set, take_all, drop_more}
use Rattle.std.proofs.lemmas.List.Sums.{sum_by-cons}
use Rattle.packed_rows.specs.Packed.{Fits, packed, unpacked, number, word_count}
use Rattle.packed_rows.specs.Words.{place, written}
use Rattle.packed_rows.specs.declared.held.Held.{Held}

-- ---- rows as numbers

-- what was packed is unpacked
pub unpacked_packed : (ws xs : List ℕ) → Fits ws xs → unpacked ws (packed ws xs) ≡ xs
unpacked_packed [] [] f = refl
unpacked_packed [] (x ∷ xs) f = absurd f
unpacked_packed (w ∷ ws) [] f = absurd f
unpacked_packed (w ∷ ws) (x ∷ xs) f =
    let p : ℕ = packed ws xs in
    let low : (x + 2 ^ w * p) % 2 ^ w ≡ x = add-mul-mod_self_left x (2 ^ w) p ∙ mod-eq_of_lt f.0 in
    let none : x / 2 ^ w ≡ 0 = div-eq_of_lt f.0 in
    let high : (x + 2 ^ w * p) / 2 ^ w ≡ p = add-mul-div_left x p (pow_pos w) ∙ omega (arith, none) in
    ap (λ (y : ℕ). y ∷ unpacked ws ((x + 2 ^ w * p) / 2 ^ w)) low
    ∙ ap (λ (n : ℕ). x ∷ unpacked ws n) high ∙ ap (λ (ys : List ℕ). x ∷ ys) (unpacked_packed ws xs f.1)

-- what is unpacked fits
pub unpacked_fits : (ws : List ℕ) (n : ℕ) → Fits ws (unpacked ws n)
unpacked_fits [] n = tt
unpacked_fits (w ∷ ws) n = (mod-lt n (pow_pos w), unpacked_fits ws (n / 2 ^ w))

-- each value is below 2 ^ its width
pub fits_at : (ws xs : List ℕ) (k : ℕ) → Fits ws xs → k < length ws → slice_index xs k < 2 ^ slice_index ws k
fits_at [] xs k f h = absurd (omega (arith, h))
fits_at (w ∷ ws) [] k f h = absurd f
fits_at (w ∷ ws) (x ∷ xs) zero f h = f.0
fits_at (w ∷ ws) (x ∷ xs) (suc k) f h = fits_at ws xs k f.1 (omega (arith, h))

pub fits_of : (ws xs : List ℕ) → length xs ≡ length ws → ((k : ℕ) → k < length ws → slice_index xs k < 2 ^ slice_index ws k) → Fits ws xs
fits_of [] [] l h = tt
fits_of [] (x ∷ xs) l h = absurd (omega (arith, l))
fits_of (w ∷ ws) [] l h = absurd (omega (arith, l))
fits_of (w ∷ ws) (x ∷ xs) l h = (h 0 (omega arith), fits_of ws xs (omega (arith, l)) (λ k less. h (suc k) (omega (arith, less))))

-- as many values as widths
pub fits_length : (ws xs : List ℕ) → Fits ws xs → length xs ≡ length ws
fits_length [] [] f = refl
fits_length [] (x ∷ xs) f = absurd f
fits_length (w ∷ ws) [] f = absurd f
fits_length (w ∷ ws) (x ∷ xs) f = ap suc (fits_length ws xs f.1)

-- ---- words as numbers

number_push : (xs : List ℕ) (y : ℕ) → number (xs ++ y ∷ []) ≡ number xs + 2 ^ (64 * length xs) * y
number_push [] y = omega arith
number_push (x ∷ xs) y =
    let more : 64 * suc (length xs) ≡ 64 + 64 * length xs = omega arith in
    let power : 2 ^ (64 * suc (length xs)) ≡ 2 ^ 64 * 2 ^ (64 * length xs) = ap (λ (k : ℕ). 2 ^ k) more ∙ pow-add 2 64 (64 * length xs) in
    let rest : number (xs ++ y ∷ []) ≡ number xs + 2 ^ (64 * length xs) * y = number_push xs y in
    rw power (rw rest (omega arith))

-- ---- bits that are put

-- the number of the held bits with others above them
pub joined_fits : (b v c w : ℕ) → b < 2 ^ c → v < 2 ^ w → b + v * 2 ^ c < 2 ^ (c + w)
joined_fits b v c w fb fv =
    let less : v * 2 ^ c + b < 2 ^ c * 2 ^ w = mul-add-lt v (2 ^ c) b (2 ^ w) fv fb in
    omega (arith, less, pow-add 2 c w)

-- a value above the bits that are held
pub above : (b v c : ℕ) → b < 2 ^ c → (b + v * 2 ^ c) / 2 ^ c ≡ v
above b v c fits =
    let none : b / 2 ^ c ≡ 0 = div-eq_of_lt fits in
    let turned : v * 2 ^ c ≡ 2 ^ c * v = omega arith in
    ap (λ (n : ℕ). (b + n) / 2 ^ c) turned ∙ add-mul-div_left b v (pow_pos c) ∙ omega (arith, none)

beneath : (b v c : ℕ) → b < 2 ^ c → (b + v * 2 ^ c) % 2 ^ c ≡ b
beneath b v c fits =
    let turned : v * 2 ^ c ≡ 2 ^ c * v = omega arith in
    ap (λ (n : ℕ). (b + n) % 2 ^ c) turned ∙ add-mul-mod_self_left b (2 ^ c) v ∙ mod-eq_of_lt fits

in_word : (b v c d : ℕ) → b < 2 ^ c → (b + v * 2 ^ c) % 2 ^ (d + c) ≡ v % 2 ^ d * 2 ^ c + b
in_word b v c d fits =
    mod-pow-add (b + v * 2 ^ c) d c ∙ ap (λ (n : ℕ). n % 2 ^ d * 2 ^ c + (b + v * 2 ^ c) % 2 ^ c) (above b v c fits)
    ∙ ap (λ (n : ℕ). v % 2 ^ d * 2 ^ c + n) (beneath b v c fits)

-- the machine drops the bits that go beyond the word
pub low_of_word : (b v c : ℕ) → c < 64 → b < 2 ^ c → b + v * 2 ^ c % 2 ^ 64 ≡ (b + v * 2 ^ c) % 2 ^ 64
low_of_word b v c less fits =
    let whole : 64 - c + c ≡ 64 = omega arith in
    let its : (b + v * 2 ^ c) % 2 ^ 64 ≡ v % 2 ^ (64 - c) * 2 ^ c + b =
    ap (λ (k : ℕ). (b + v * 2 ^ c) % 2 ^ k) (sym whole) ∙ in_word b v c (64 - c) fits in
    let alone : (0 + v * 2 ^ c) % 2 ^ 64 ≡ v % 2 ^ (64 - c) * 2 ^ c + 0 =
    ap (λ (k : ℕ). (0 + v * 2 ^ c) % 2 ^ k) (sym whole) ∙ in_word 0 v c (64 - c) (pow_pos c) in
    let same : v * 2 ^ c % 2 ^ 64 ≡ v % 2 ^ (64 - c) * 2 ^ c = omega (arith, alone) in
    omega (arith, its, same)

pub low_below : (b v c : ℕ) → c < 64 → b < 2 ^ c → b + v * 2 ^ c % 2 ^ 64 < 2 ^ 64
low_below b v c less fits =
    let below : (b + v * 2 ^ c) % 2 ^ 64 < 2 ^ 64 = mod_below (b + v * 2 ^ c) (2 ^ 64) (pow_pos 64) in
    omega (arith, low_of_word b v c less fits, below)

-- and those are the value's high bits
pub high_of_word : (b v c : ℕ) → c < 64 → b < 2 ^ c → v / 2 ^ (64 - c) ≡ (b + v * 2 ^ c) / 2 ^ 64
high_of_word b v c less fits =
    let whole : c + (64 - c) ≡ 64 = omega arith in
    ap (λ (n : ℕ). n / 2 ^ (64 - c)) (sym (above b v c fits)) ∙ shr-shr (b + v * 2 ^ c) c (64 - c)
    ∙ ap (λ (k : ℕ). (b + v * 2 ^ c) / 2 ^ k) whole

pub shifted_twice : (v c : ℕ) → c < 64 → v / 2 ^ 1 / 2 ^ (63 - c) ≡ v / 2 ^ (64 - c)
shifted_twice v c less =
    let whole : 1 + (63 - c) ≡ 64 - c = omega arith in
    shr-shr v 1 (63 - c) ∙ ap (λ (k : ℕ). v / 2 ^ k) whole

-- where a value has room, no bits go beyond the word
pub all_in_word : (b v c w : ℕ) → c + w < 64 → b < 2 ^ c → v < 2 ^ w → (b + v * 2 ^ c) % 2 ^ 64 ≡ b + v * 2 ^ c
all_in_word b v c w less fb fv =
    let few : c + w ≤ 64 = omega arith in
    let wide : 2 ^ (c + w) ≤ 2 ^ 64 = pow-le-pow_right (lit< tt) few in
    let fits : b + v * 2 ^ c < 2 ^ (c + w) = joined_fits b v c w fb fv in
    mod-eq_of_lt (omega (arith, wide, fits))

-- a number by its high and its low part, above others
spread : (a p w high low t : ℕ) → high * w + low ≡ t → a + p * low + p * w * high ≡ a + p * t
spread a p w high low t is = rw (← is) (omega arith)

-- they are held
pub put_held : (words : List ℕ) (h : Held) (t v : ℕ) → t ≡ h.bits + v * 2 ^ h.count
    → number (take h.next words) + 2 ^ (64 * h.next) * t ≡ written words h + 2 ^ place h * v
put_held words h t v is =
    let power : 2 ^ place h ≡ 2 ^ (64 * h.next) * 2 ^ h.count = pow-add 2 (64 * h.next) h.count in
    rw (is, power) (omega arith)

-- or the lowest word of them goes to its place
pub put_word : (words : List ℕ) (h : Held) (t v : ℕ) → t ≡ h.bits + v * 2 ^ h.count → h.next < length words
    → number (take (h.next + 1) (set words h.next (t % 2 ^ 64))) + 2 ^ (64 * (h.next + 1)) * (t / 2 ^ 64)
    ≡ written words h + 2 ^ place h * v
put_word words h t v is less =
    let n : ℕ = h.next in
    let front : take (n + 1) (set words n (t % 2 ^ 64)) ≡ take n words ++ t % 2 ^ 64 ∷ [] = take_more_set words n (t % 2 ^ 64) less in
    let long : length (take n words) ≡ n = length-take-le n words (omega arith) in
    let low : number (take (n + 1) (set words n (t % 2 ^ 64))) ≡ number (take n words) + 2 ^ (64 * n) * (t % 2 ^ 64) =
    ap number front ∙ number_push (take n words) (t % 2 ^ 64)
    ∙ ap (λ (k : ℕ). number (take n words) + 2 ^ (64 * k) * (t % 2 ^ 64)) long in
    let more : 64 * (n + 1) ≡ 64 * n + 64 = omega arith in
    let power : 2 ^ (64 * (n + 1)) ≡ 2 ^ (64 * n) * 2 ^ 64 = ap (λ (k : ℕ). 2 ^ k) more ∙ pow-add 2 (64 * n) 64 in
    rw (low, power) (spread (number (take n words)) (2 ^ (64 * n)) (2 ^ 64) (t / 2 ^ 64) (t % 2 ^ 64) t (shr_split t 64)
    ∙ put_held words h t v is)

-- the bits beyond the word are held
pub put_rest : (b v c w : ℕ) → b < 2 ^ c → v < 2 ^ w → 64 ≤ c + w → (b + v * 2 ^ c) / 2 ^ 64 < 2 ^ (c + w - 64)
put_rest b v c w fb fv more =
    let whole : c + w - 64 + 64 ≡ c + w = omega arith in
    let less : b + v * 2 ^ c < 2 ^ (c + w - 64 + 64) = subst (λ (k : ℕ). b + v * 2 ^ c < 2 ^ k) (sym whole) (joined_fits b v c w fb fv) in
    shr_below (b + v * 2 ^ c) (c + w - 64) 64 less

-- the high part of a value of more bits than a word
pub high_part : (v w : ℕ) → 64 ≤ w → v < 2 ^ w → v / 2 ^ 64 < 2 ^ (w - 64)
high_part v w wide fits =
    let whole : w - 64 + 64 ≡ w = omega arith in
    shr_below v (w - 64) 64 (subst (λ (k : ℕ). v < 2 ^ k) (sym whole) fits)

-- a value of a word's bits at most is a word
pub one_word : (v w : ℕ) → w ≤ 64 → v < 2 ^ w → v < 2 ^ 64
one_word v w few fits =
    let wide : 2 ^ w ≤ 2 ^ 64 = pow-le-pow_right (lit< tt) few in
    omega (arith, wide, fits)

-- a value of more bits is put in two parts
pub put_parts : (before p v first second : ℕ) → first ≡ before + 2 ^ p * (v % 2 ^ 64)
    → second ≡ first + 2 ^ (p + 64) * (v / 2 ^ 64) → second ≡ before + 2 ^ p * v
put_parts before p v first second one two =
    two ∙ rw (one, pow-add 2 p 64) (spread before (2 ^ p) (2 ^ 64) (v / 2 ^ 64) (v % 2 ^ 64) v (shr_split v 64))

-- ---- the end

-- the bits that are held go to the last word
pub last_some : (words : List ℕ) (h : Held) → 0 < h.count → h.count < 64 → length words ≡ word_count (place h)
    → number (set words h.next h.bits) ≡ written words h
last_some words h some few long =
    let n : ℕ = h.next in
    let last : length words ≡ n + 1 = omega (arith, long) in
    let less : n < length words = omega (arith, last) in
    let full : length (set words n h.bits) ≤ n + 1 = omega (arith, length-set words n h.bits, last) in
    let whole : take (n + 1) (set words n h.bits) ≡ set words n h.bits = take_all (n + 1) (set words n h.bits) full in
    let size : length (take n words) ≡ n = length-take-le n words (omega arith) in
    ap number (sym whole ∙ take_more_set words n h.bits less) ∙ number_push (take n words) h.bits
    ∙ ap (λ (k : ℕ). number (take n words) + 2 ^ (64 * k) * h.bits) size

-- ---- one value after another

-- the lists from a place within on
pub from_place : (ws : List ℕ) (k w : ℕ) → k < length ws → w ≡ get_or ws k 0 → drop k ws ≡ w ∷ drop (k + 1) ws
from_place ws k w less is = drop_more ws k 0 less ∙ ap (λ (x : ℕ). x ∷ drop (k + 1) ws) (sym is)

pub sum_from : (ws : List ℕ) (k w : ℕ) → k < length ws → w ≡ get_or ws k 0 → sum (drop k ws) ≡ w + sum (drop (k + 1) ws)
sum_from ws k w less is = ap sum (from_place ws k w less is) ∙ sum_by-cons (λ x. x) w (drop (k + 1) ws)

pub fits_from : (ws xs : List ℕ) (k w x : ℕ) → k < length ws → k < length xs → w ≡ get_or ws k 0 → x ≡ get_or xs k 0
    → Fits (drop k ws) (drop k xs) → (x < 2 ^ w) × Fits (drop (k + 1) ws) (drop (k + 1) xs)
fits_from ws xs k w x lw lx iw ix f =
    let first : Fits (w ∷ drop (k + 1) ws) (drop k xs) = subst (λ (vs : List ℕ). Fits vs (drop k xs)) (from_place ws k w lw iw) f in
    subst (λ (ys : List ℕ). Fits (w ∷ drop (k + 1) ws) ys) (from_place xs k x lx ix) first

-- a value is put, and the others are left
pub packed_step : (ws xs : List ℕ) (k w x p n whole : ℕ) → k < length ws → k < length xs → w ≡ get_or ws k 0
    → x ≡ get_or xs k 0 → n + 2 ^ p * packed (drop k ws) (drop k xs) ≡ whole
    → n + 2 ^ p * x + 2 ^ (p + w) * packed (drop (k + 1) ws) (drop (k + 1) xs) ≡ whole
packed_step ws xs k w x p n whole lw lx iw ix before =
    let r : ℕ = packed (drop (k + 1) ws) (drop (k + 1) xs) in
    let opened : packed (drop k ws) (drop k xs) ≡ x + 2 ^ w * r =
    ap (λ (vs : List ℕ). packed vs (drop k xs)) (from_place ws k w lw iw)
    ∙ ap (λ (ys : List ℕ). packed (w ∷ drop (k + 1) ws) ys) (from_place xs k x lx ix) in
    let power : 2 ^ (p + w) ≡ 2 ^ p * 2 ^ w = pow-add 2 p w in
    let same : n + 2 ^ p * x + 2 ^ (p + w) * r ≡ n + 2 ^ p * (x + 2 ^ w * r) = rw power (omega arith) in
    same ∙ ap (λ (m : ℕ). n + 2 ^ p * m) (sym opened) ∙ before
