-- The digits of a number from the left, and how many there are.
use Rattle.std.proofs.Common.{◌≡◌, ℕ, zero, suc, ◌+◌, ◌-◌, ◌*◌, ◌/◌, ◌%◌, ◌^◌, ◌<◌, ◌≤◌, max, List, [], ◌∷◌, ◌++◌, true, false, sym, ap, ◌∙◌, arith, append_assoc, subst}
use Rattle.std.specs.Prelude.{nat_lt}
use Rattle.std.specs.Option.{unwrap_or}
use Rattle.std.proofs.Math.Nat.{pow-zero, pow-suc, pow-le-pow_right, le-mul_of_pos_right, mul-le-mul_left, div-one}
use Rattle.std.proofs.Common.{lit<, lt-ltb, le-ltb}
use Rattle.std.proofs.lemmas.Nat.{pow-add, pow_pos, shr-shr, mod_below, leading_length}
use Rattle.std.specs.Int.Count.{count_leading_zeros}
use Rattle.dt_core.proofs.LeastLaws.{least_some}
use Rattle.netlist.specs.Message.{digit, digits, digit_count}

-- ---- from the left

-- the leftmost of some digits of s bits each stands before the others
pub leftmost : (s k n : ℕ) → digits (2 ^ s) (suc k) n ≡ digit (n / 2 ^ (s * k) % 2 ^ s) ∷ digits (2 ^ s) k n
leftmost s zero n =
    let none : s * 0 ≡ 0 = omega arith in
    let whole : n / 2 ^ (s * 0) ≡ n = ap (λ (i : ℕ). n / 2 ^ i) none ∙ div-one n in
    ap (λ (m : ℕ). digit (m % 2 ^ s) ∷ []) (sym whole)
leftmost s (suc k) n =
    let more : s + s * k ≡ s * suc k = omega arith in
    let high : n / 2 ^ s / 2 ^ (s * k) ≡ n / 2 ^ (s * suc k) = shr-shr n s (s * k) ∙ ap (λ (i : ℕ). n / 2 ^ i) more in
    ap (λ (ds : List ℕ). ds ++ digit (n % 2 ^ s) ∷ []) (leftmost s k (n / 2 ^ s))
    ∙ ap (λ (m : ℕ). digit (m % 2 ^ s) ∷ digits (2 ^ s) (suc k) n) high

-- a digit is appended, and fewer are left
pub digit_pushed : (s k n d : ℕ) (out new all : List ℕ) → d ≡ digit (n / 2 ^ (s * k) % 2 ^ s) → new ≡ out ++ d ∷ []
    → out ++ digits (2 ^ s) (suc k) n ≡ all → new ++ digits (2 ^ s) k n ≡ all
digit_pushed s k n d out new all is pushed whole =
    ap (λ (t : List ℕ). t ++ digits (2 ^ s) k n) pushed ∙ append_assoc out (d ∷ []) (digits (2 ^ s) k n)
    ∙ ap (λ (x : ℕ). out ++ x ∷ digits (2 ^ s) k n) is ∙ ap (λ (t : List ℕ). out ++ t) (sym (leftmost s k n)) ∙ whole

-- ---- how many

power : (s i : ℕ) → (2 ^ s) ^ i ≡ 2 ^ (s * i)
power s zero =
    let none : s * 0 ≡ 0 = omega arith in
    pow-zero (2 ^ s) ∙ sym (ap (λ (k : ℕ). 2 ^ k) none)
power s (suc i) =
    let more : s * i + s ≡ s * suc i = omega arith in
    pow-suc (2 ^ s) i ∙ ap (λ (x : ℕ). x * 2 ^ s) (power s i) ∙ sym (pow-add 2 (s * i) s) ∙ ap (λ (k : ℕ). 2 ^ k) more

wider : (v w : ℕ) → v ≤ w → 2 ^ v ≤ 2 ^ w
wider v w h = pow-le-pow_right (lit< tt) h

-- a number of m bits is at least half of the next power
at_least_half : (n m : ℕ) → 0 < m → 2 ^ m ≤ 2 * n + 1 → 2 ^ (m - 1) ≤ n
at_least_half n m some h =
    let whole : suc (m - 1) ≡ m = omega arith in
    let named : 2 ^ (m - 1) * 2 ≡ 2 ^ m = sym (pow-suc 2 (m - 1)) ∙ ap (λ (k : ℕ). 2 ^ k) whole in
    omega (arith, named, h)

-- the last of c + 1 digits of s bits is needed for m bits, 128 at most
few_digits : (s m c : ℕ) → 1 ≤ s → m ≤ 128 → (0 < c → s * c < m) → c < 128
few_digits s m zero one most needed = omega arith
few_digits s m (suc c) one most needed =
    let some : 0 < s = omega arith in
    let less : s * suc c < m = needed (omega arith) in
    let more : suc c ≤ suc c * s = le-mul_of_pos_right (suc c) some in
    omega (arith, less, more, most)

-- so many digits are enough
enough : (s n m c : ℕ) → n < 2 ^ m → m ≤ s * (c + 1) → nat_lt n ((2 ^ s) ^ (c + 1)) ≡ true
enough s n m c below all =
    let wide : 2 ^ m ≤ 2 ^ (s * (c + 1)) = wider m (s * (c + 1)) all in
    let less : n < (2 ^ s) ^ (c + 1) = omega (arith, wide, power s (c + 1), below) in
    lt-ltb n ((2 ^ s) ^ (c + 1)) less

-- and fewer aren't
too_few : (s n m c i : ℕ) → i < c → s * c < m → 2 ^ m ≤ 2 * n + 1 → nat_lt n ((2 ^ s) ^ (i + 1)) ≡ false
too_few s n m c i less needed half =
    let next : i + 1 ≤ c = omega arith in
    let product : s * (i + 1) ≤ s * c = mul-le-mul_left s next in
    let short : s * (i + 1) ≤ m - 1 = omega (arith, product, needed) in
    let wide : 2 ^ (s * (i + 1)) ≤ 2 ^ (m - 1) = wider (s * (i + 1)) (m - 1) short in
    let high : 2 ^ (m - 1) ≤ n = at_least_half n m (omega (arith, needed)) half in
    let more : (2 ^ s) ^ (i + 1) ≤ n = omega (arith, wide, power s (i + 1), high) in
    le-ltb n ((2 ^ s) ^ (i + 1)) more

counted : (s n m c : ℕ) → 1 ≤ s → m ≤ 128 → n < 2 ^ m → 2 ^ m ≤ 2 * n + 1 → m ≤ s * (c + 1) → (0 < c → s * c < m)
    → c + 1 ≡ digit_count (2 ^ s) n
counted s n m c one most below half all needed =
    ap (λ o. unwrap_or o 0 + 1)
    (least_some (λ i. nat_lt n ((2 ^ s) ^ (i + 1))) 128 c (few_digits s m c one most needed) (enough s n m c below all)
    (λ i less. too_few s n m c i less (needed (omega arith)) half))

-- by cases on the whole number of digits for m bits
counted_by : (s n m q : ℕ) → 1 ≤ s → m ≤ 128 → n < 2 ^ m → 2 ^ m ≤ 2 * n + 1 → m ≤ s * q → s * q < m + s
    → max q 1 ≡ digit_count (2 ^ s) n
counted_by s n m zero one most below half all tight =
    let none : m ≡ 0 = omega (arith, all) in
    counted s n m 0 one most below half (omega (arith, none)) (λ some. absurd (omega arith))
counted_by s n m (suc c) one most below half all tight =
    let whole : max (suc c) 1 ≡ c + 1 = omega arith in
    let enough : m ≤ s * (c + 1) = omega (arith, all) in
    let needed : s * c < m = omega (arith, tight) in
    whole ∙ counted s n m c one most below half enough (λ some. needed)

-- a number of m bits has as many digits of s bits as m bits have, but 0 has one
pub fewest_counted : (s n m q : ℕ) → 1 ≤ s → m ≤ 128 → n < 2 ^ m → 2 ^ m ≤ 2 * n + 1 → q ≡ (m + (s - 1)) / s
    → max q 1 ≡ digit_count (2 ^ s) n
fewest_counted s n m q one most below half is =
    let some : 0 < s = omega arith in
    let parts : s * ((m + (s - 1)) / s) + (m + (s - 1)) % s ≡ m + (s - 1) = omega arith in
    let small : (m + (s - 1)) % s < s = mod_below (m + (s - 1)) s some in
    let named : s * q ≡ s * ((m + (s - 1)) / s) = ap (λ (k : ℕ). s * k) is in
    counted_by s n m q one most below half (omega (arith, parts, small, named)) (omega (arith, parts, small, named))

-- a digit of four bits at most
pub small_digit : (n s : ℕ) → s ≤ 4 → n % 2 ^ s < 16
small_digit n s few =
    let below : n % 2 ^ s < 2 ^ s = mod_below n (2 ^ s) (pow_pos s) in
    let wide : 2 ^ s ≤ 2 ^ 4 = wider s 4 few in
    omega (arith, below, wide)

-- the bits of a number, as the machine counts them
pub bits_below : (a : ℕ) → a < 2 ^ 128 → a < 2 ^ (128 - count_leading_zeros 128 a)
bits_below a h =
    let found = leading_length 128 a h in
    let same : found.0 ≡ 128 - count_leading_zeros 128 a = omega (arith, found.1) in
    subst (λ (m : ℕ). a < 2 ^ m) same found.2

pub bits_fewest : (a : ℕ) → a < 2 ^ 128 → 2 ^ (128 - count_leading_zeros 128 a) ≤ 2 * a + 1
bits_fewest a h =
    let found = leading_length 128 a h in
    let same : found.0 ≡ 128 - count_leading_zeros 128 a = omega (arith, found.1) in
    subst (λ (m : ℕ). 2 ^ m ≤ 2 * a + 1) same found.3
