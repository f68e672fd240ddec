-- What stands in a value's line can be read back: the code gives the signal's number, and the bits give the value.
use Rattle.std.proofs.Common.{◌≡◌, ℕ, zero, suc, ◌<◌, ◌≤◌, ◌+◌, ◌-◌, ◌*◌, ◌/◌, ◌%◌, ◌^◌, Bool, true, false, if◌then◌else◌, List, [], ◌∷◌, ◌++◌, refl, sym, ap, ◌∙◌, arith, add-mul, mul_assoc, pow-suc, zero-mul, mod-eq_of_lt}
use Rattle.std.specs.Prelude.{Option, Some, None, nat_lt, fold}
use Rattle.std.proofs.lemmas.List.Sums.{fold-append}
use Rattle.std.proofs.Math.Nat.{mod-one}
use Rattle.std.proofs.lemmas.Nat.{mod-pow-add}
use Rattle.std.proofs.lemmas.Bool.Decides.{nat_tests}
use Rattle.waveform.specs.Vcd.{code, code_within, bits}
use Rattle.waveform.specs.Reader.{number_of_bits}

-- one character more of a code
abbrev pub code_step : Option ℕ → ℕ → Option ℕ
code_step None c = Some (c - 33)
code_step (Some n) c = Some ((n + 1) * 94 + (c - 33))

-- the number that a code stands for
abbrev pub number_of_code : List ℕ → Option ℕ
number_of_code cs = fold code_step None cs

code_case : (b : Bool) (steps n : ℕ) → nat_lt n 94 ≡ b → (94 ≤ n → fold code_step None (code_within steps (n / 94 - 1)) ≡ Some (n / 94 - 1))
    → fold code_step None (if b then (33 + n) ∷ [] else code_within steps (n / 94 - 1) ++ (33 + n % 94) ∷ []) ≡ Some n
code_case true steps n e h = let s : 33 + n - 33 ≡ n = omega arith in ap (λ (x : ℕ). Some x) s
code_case false steps n e h =
    let l : 94 ≤ n = grind (arith, nat_tests) in
    let s : (n / 94 - 1 + 1) * 94 + (33 + n % 94 - 33) ≡ n = omega arith in
    fold-append code_step None (code_within steps (n / 94 - 1)) ((33 + n % 94) ∷ []) ∙ ap (λ o. code_step o (33 + n % 94)) (h l) ∙ ap (λ (x : ℕ). Some x) s

code_back : (steps n : ℕ) → n < steps → fold code_step None (code_within steps n) ≡ Some n
code_back zero n h = absurd (omega arith)
code_back (suc steps) n h = code_case (nat_lt n 94) steps n refl (λ l. code_back steps (n / 94 - 1) (omega arith))

pub number_of_code-code : (n : ℕ) → number_of_code (code n) ≡ Some n
unfolding code
number_of_code-code n = code_back (suc n) n (omega arith)

-- two variables have two codes
pub codes_differ : (m n : ℕ) → code m ≡ code n → m ≡ n
codes_differ m n e = let f : Some m ≡ Some n = sym (number_of_code-code m) ∙ ap number_of_code e ∙ number_of_code-code n in cc

ring : (a b p r : ℕ) → (2 * a + b) * p + r ≡ a * (p * 2) + (b * p + r)
ring a b p r = omega (arith, add-mul (2 * a) b p, mul_assoc 2 a p, mul_assoc a p 2)

bits_back : (w v a : ℕ) → number_of_bits a (bits w v) ≡ a * 2 ^ w + v % 2 ^ w
bits_back zero v a = omega (arith, mod-one v)
bits_back (suc w) v a =
    let s : 2 * a + (48 + v / 2 ^ w % 2 - 48) ≡ 2 * a + v / 2 ^ w % 2 = omega arith in
    let one : suc w ≡ 1 + w = omega arith in
    let q : v % 2 ^ suc w ≡ v / 2 ^ w % 2 * 2 ^ w + v % 2 ^ w = ap (λ (k : ℕ). v % 2 ^ k) one ∙ mod-pow-add v 1 w in
    bits_back w v (2 * a + (48 + v / 2 ^ w % 2 - 48)) ∙ ap (λ (y : ℕ). y * 2 ^ w + v % 2 ^ w) s ∙ ring a (v / 2 ^ w % 2) (2 ^ w) (v % 2 ^ w)
    ∙ ap (λ (y : ℕ). a * y + (v / 2 ^ w % 2 * 2 ^ w + v % 2 ^ w)) (sym (pow-suc 2 w)) ∙ ap (λ (y : ℕ). a * 2 ^ suc w + y) (sym q)

-- the bits of a value that fits give it back
pub number_of_bits-bits : (w v : ℕ) → v < 2 ^ w → number_of_bits 0 (bits w v) ≡ v
number_of_bits-bits w v h = bits_back w v 0 ∙ (let m : v % 2 ^ w ≡ v = mod-eq_of_lt h in omega (arith, m, zero-mul (2 ^ w)))

-- a code doesn't depend on how many steps are allowed, where they suffice
same_step : (b : Bool) (n : ℕ) (xs ys : List ℕ) → nat_lt n 94 ≡ b → (94 ≤ n → xs ≡ ys) → (if b then (33 + n) ∷ [] else xs ++ (33 + n % 94) ∷ []) ≡ (if b then (33 + n) ∷ [] else ys ++ (33 + n % 94) ∷ [])
same_step true n xs ys e h = refl
same_step false n xs ys e h = let l : 94 ≤ n = grind (arith, nat_tests) in ap (λ (zs : List ℕ). zs ++ (33 + n % 94) ∷ []) (h l)

same_code : (s t n : ℕ) → n < s → n < t → code_within s n ≡ code_within t n
same_code zero t n h i = absurd (omega arith)
same_code (suc s) zero n h i = absurd (omega arith)
same_code (suc s) (suc t) n h i =
    same_step (nat_lt n 94) n (code_within s (n / 94 - 1)) (code_within t (n / 94 - 1)) refl (λ l. same_code s t (n / 94 - 1) (omega arith) (omega arith))

small_step : (b : Bool) (n : ℕ) (xs : List ℕ) → nat_lt n 94 ≡ b → n < 94 → (if b then (33 + n) ∷ [] else xs) ≡ (33 + n) ∷ []
small_step true n xs e h = refl
small_step false n xs e h = let l : 94 ≤ n = grind (arith, nat_tests) in absurd (omega arith)

large_step : (b : Bool) (n : ℕ) (xs ys : List ℕ) → nat_lt n 94 ≡ b → 94 ≤ n → (if b then xs else ys) ≡ ys
large_step true n xs ys e h = let l : n < 94 = grind (arith, nat_tests) in absurd (omega arith)
large_step false n xs ys e h = refl

-- a code by the number's two cases
pub code-small : (n : ℕ) → n < 94 → code n ≡ (33 + n) ∷ []
unfolding code
code-small n h = small_step (nat_lt n 94) n (code_within n (n / 94 - 1) ++ (33 + n % 94) ∷ []) refl h

pub code-large : (n : ℕ) → 94 ≤ n → code n ≡ code (n / 94 - 1) ++ (33 + n % 94) ∷ []
unfolding code
code-large n h =
    large_step (nat_lt n 94) n ((33 + n) ∷ []) (code_within n (n / 94 - 1) ++ (33 + n % 94) ∷ []) refl h
    ∙ ap (λ (zs : List ℕ). zs ++ (33 + n % 94) ∷ []) (same_code n (suc (n / 94 - 1)) (n / 94 - 1) (omega arith) (omega arith))
