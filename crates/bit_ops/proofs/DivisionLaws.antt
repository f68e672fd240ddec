-- Quotient and remainder fit together.
use Rattle.std.proofs.Common.{◌≡◌, ◌≢◌, ℕ, zero, suc, ◌+◌, ◌-◌, ◌*◌, ◌/◌, ◌%◌, ◌^◌, ◌<◌, ◌≤◌, Bool, true, false, ℤ, pos, negsuc, neg_ℤ, unsigned_abs, refl, sym, ap, subst, ◌∙◌, inl, inr, arith}
use Rattle.std.specs.Prelude.{◌⊎◌, ◌*ℤ◌, ◌+ℤ◌, int_div, int_rem, int_lt}
use Rattle.std.proofs.Math.Nat.{mod-eq_of_lt, mod-lt, mod-add-mod, add-mod-mod, mod-le, mul-mod_left, div-le_self}
use Rattle.std.proofs.lemmas.Bool.{cases_lt, le-ltb, ne_eqb}
use Rattle.std.proofs.lemmas.Nat.{pow_pos, div-add-mod', mul-mod_first, mul-mod_second, shr_split}
use Rattle.std.proofs.lemmas.Int.{rem_below, quot-rem}
use Rattle.bit_ops.specs.Operators.{residue, negate, integer, div, rem}
use Rattle.bit_ops.specs.Laws.{IsBeyond, QuotientFitsRemainder}
use Rattle.bit_ops.proofs.Ranges.{Holds, integer_held, integer_residue, residue_integer}

-- ---- negation modulo a power of two

-- a number and its negation sum to 0
sum_zero : (w n : ℕ) → (negate w n + n) % 2 ^ w ≡ 0
sum_zero w zero = ap (λ k. k % 2 ^ w) (ap (λ k. k + 0) (mod-eq_of_lt (pow_pos w))) ∙ mod-eq_of_lt (pow_pos w)
sum_zero w (suc n) =
    let r : ℕ = n % 2 ^ w in
    let few : r < 2 ^ w = mod-lt n (pow_pos w) in
    let parts : n / 2 ^ w * 2 ^ w + r ≡ n = shr_split n w in
    let whole : ((2 ^ w - 1) - r) + suc n ≡ (n / 2 ^ w + 1) * 2 ^ w = omega (arith, few, parts) in
    ap (λ k. k % 2 ^ w) whole ∙ mul-mod_left (n / 2 ^ w + 1) (2 ^ w)

negate_below : (w n : ℕ) → negate w n < 2 ^ w
negate_below w zero = mod-lt 0 (pow_pos w)
negate_below w (suc n) = let p : 0 < 2 ^ w = pow_pos w in omega (arith, p)

-- what sums with n to 0 is its negation
only_one : (w p n : ℕ) → (p + n) % 2 ^ w ≡ 0 → p % 2 ^ w ≡ negate w n
only_one w p n e =
    let m : ℕ = 2 ^ w in let q : ℕ = negate w n in
    -- p is congruent to p + (n + q), and so to q
    let first : (p + (n + q)) % 2 ^ w ≡ p % 2 ^ w =
    sym (add-mod-mod p (n + q) (2 ^ w)) ∙ ap (λ k. (p + k) % 2 ^ w) (ap (λ k. k % 2 ^ w) (omega arith) ∙ sum_zero w n) ∙ ap (λ k. k % 2 ^ w) (omega arith) in
    let second : (p + (n + q)) % 2 ^ w ≡ q % 2 ^ w =
    ap (λ k. k % 2 ^ w) (omega arith) ∙ sym (mod-add-mod (p + n) (2 ^ w) q) ∙ ap (λ k. (k + q) % 2 ^ w) e ∙ ap (λ k. k % 2 ^ w) (omega arith) in
    sym first ∙ second ∙ mod-eq_of_lt (negate_below w n)

product_negated : (w a b : ℕ) → (negate w a * b) % 2 ^ w ≡ negate w (a * b)
product_negated w a b =
    let all : negate w a * b + a * b ≡ (negate w a + a) * b = omega arith in
    only_one w (negate w a * b) (a * b)
    (ap (λ k. k % 2 ^ w) all ∙ sym (mul-mod_first (negate w a + a) b (2 ^ w)) ∙ ap (λ k. (k * b) % 2 ^ w) (sum_zero w a) ∙ ap (λ k. k % 2 ^ w) (omega arith) ∙ mod-eq_of_lt (pow_pos w))

sum_negated : (w a b : ℕ) → (negate w a + negate w b) % 2 ^ w ≡ negate w (a + b)
sum_negated w a b =
    let x : ℕ = negate w a in let y : ℕ = negate w b in
    let all : (x + y) + (a + b) ≡ (x + a) + (y + b) = omega arith in
    only_one w (x + y) (a + b)
    (ap (λ k. k % 2 ^ w) all ∙ sym (mod-add-mod (x + a) (2 ^ w) (y + b)) ∙ ap (λ k. (k + (y + b)) % 2 ^ w) (sum_zero w a) ∙ ap (λ k. k % 2 ^ w) (omega arith) ∙ sum_zero w b)

twice_negated : (w a : ℕ) → a % 2 ^ w ≡ negate w (negate w a)
twice_negated w a = only_one w a (negate w a) (ap (λ k. k % 2 ^ w) (omega arith) ∙ sum_zero w a)

negated_low : (w a : ℕ) → negate w (a % 2 ^ w) ≡ negate w a
negated_low w a =
    sym (mod-eq_of_lt (negate_below w (a % 2 ^ w))) ∙ only_one w (negate w (a % 2 ^ w)) a (sym (add-mod-mod (negate w (a % 2 ^ w)) a (2 ^ w)) ∙ sum_zero w (a % 2 ^ w))

-- ---- q * n + r is m, and so it is with signs

-- both positive
plain_parts : (w q n r m : ℕ) → q * n + r ≡ m → ((q % 2 ^ w * (n % 2 ^ w)) % 2 ^ w + r % 2 ^ w) % 2 ^ w ≡ m % 2 ^ w
plain_parts w q n r m e =
    let t : ℕ = 2 ^ w in
    let times : (q % 2 ^ w * (n % 2 ^ w)) % 2 ^ w ≡ q * n % 2 ^ w = mul-mod_first q (n % 2 ^ w) (2 ^ w) ∙ mul-mod_second q n (2 ^ w) in
    ap (λ k. (k + r % 2 ^ w) % 2 ^ w) times ∙ mod-add-mod (q * n) (2 ^ w) (r % 2 ^ w) ∙ add-mod-mod (q * n) r (2 ^ w) ∙ ap (λ k. k % 2 ^ w) e

-- a negative divisor
divisor_negated : (w q n r m : ℕ) → q * n + r ≡ m → ((negate w q * negate w n) % 2 ^ w + r % 2 ^ w) % 2 ^ w ≡ m % 2 ^ w
divisor_negated w q n r m e =
    let times : (negate w q * negate w n) % 2 ^ w ≡ q * n % 2 ^ w =
    product_negated w q (negate w n) ∙ ap (λ k. negate w k) (omega arith) ∙ sym (negated_low w (negate w n * q)) ∙ ap (negate w) (product_negated w n q) ∙ sym (twice_negated w (n * q)) ∙ ap (λ k. k % 2 ^ w) (omega arith) in
    ap (λ k. (k + r % 2 ^ w) % 2 ^ w) times ∙ mod-add-mod (q * n) (2 ^ w) (r % 2 ^ w) ∙ add-mod-mod (q * n) r (2 ^ w) ∙ ap (λ k. k % 2 ^ w) e

-- a negative dividend
dividend_negated : (w q n r m : ℕ) → q * n + r ≡ m → ((negate w q * (n % 2 ^ w)) % 2 ^ w + negate w r) % 2 ^ w ≡ negate w m
dividend_negated w q n r m e =
    let times : (negate w q * (n % 2 ^ w)) % 2 ^ w ≡ negate w (q * n) = mul-mod_second (negate w q) n (2 ^ w) ∙ product_negated w q n in
    ap (λ k. (k + negate w r) % 2 ^ w) times ∙ sum_negated w (q * n) r ∙ ap (negate w) e

-- both negative
both_negated : (w q n r m : ℕ) → q * n + r ≡ m → ((q % 2 ^ w * negate w n) % 2 ^ w + negate w r) % 2 ^ w ≡ negate w m
both_negated w q n r m e =
    let times : (q % 2 ^ w * negate w n) % 2 ^ w ≡ negate w (q * n) =
    mul-mod_first q (negate w n) (2 ^ w) ∙ ap (λ k. k % 2 ^ w) (omega arith) ∙ product_negated w n q ∙ ap (negate w) (omega arith) in
    ap (λ k. (k + negate w r) % 2 ^ w) times ∙ sum_negated w (q * n) r ∙ ap (negate w) e

-- by the two signs
whole_parts : (w : ℕ) (x y : ℤ) → ((residue w (int_div x y) * residue w y) % 2 ^ w + residue w (int_rem x y)) % 2 ^ w ≡ residue w x
whole_parts w (pos a) (pos b) = plain_parts w (a / b) b (a % b) a (div-add-mod' a b)
whole_parts w (pos a) (negsuc b) = divisor_negated w (a / suc b) (suc b) (a % suc b) a (div-add-mod' a (suc b))
whole_parts w (negsuc a) (pos b) = dividend_negated w (suc a / b) b (suc a % b) (suc a) (div-add-mod' (suc a) b)
whole_parts w (negsuc a) (negsuc b) = both_negated w (suc a / suc b) (suc b) (suc a % suc b) (suc a) (div-add-mod' (suc a) (suc b))

-- ---- the remainder is held, and less than the divisor

held_negated : (w r n : ℕ) → r ≤ suc n → 2 * (n + 1) ≤ 2 ^ w → Holds true w (neg_ℤ (pos r))
held_negated w zero n h held = pow_pos w
held_negated w (suc r) n h held = omega arith

remainder_held : (s : Bool) (w : ℕ) (x y : ℤ) → Holds s w x → Holds s w (int_rem x y)
remainder_held false w (pos a) y held = let less : a % unsigned_abs y ≤ a = mod-le a (unsigned_abs y) in omega (arith, less, held)
remainder_held false w (negsuc a) y held = absurd held
remainder_held true w (pos a) y held = let less : a % unsigned_abs y ≤ a = mod-le a (unsigned_abs y) in omega (arith, less, held)
remainder_held true w (negsuc a) y held = held_negated w (suc a % unsigned_abs y) a (mod-le (suc a) (unsigned_abs y)) held

-- a value that isn't 0 stands for a number that isn't
some_size : (s : Bool) (w b : ℕ) → b < 2 ^ w → b ≢ 0 → 0 < unsigned_abs (integer s w b)
some_size s w b fits some = positive (integer s w b) (λ e. some (sym (residue_integer s w b fits) ∙ ap (residue w) e ∙ mod-eq_of_lt (pow_pos w)))
  where
    positive : (z : ℤ) → (z ≡ pos 0 → ⊥) → 0 < unsigned_abs z
    positive (pos zero) h = absurd (h refl)
    positive (pos (suc n)) h = omega arith
    positive (negsuc n) h = omega arith

-- ---- the quotient is held, but for that of the least negative number by -1

held_at_most : (w q n : ℕ) → q ≤ n → 2 * n ≤ 2 ^ w → Holds true w (neg_ℤ (pos q))
held_at_most w zero n h held = pow_pos w
held_at_most w (suc q) n h held = omega arith

-- a quotient by two at least is at most half
half : (a b : ℕ) → 1 ≤ b → 2 * (a / suc b) ≤ a
half a zero h = absurd (omega arith)
half a (suc b) h =
    let q : ℕ = a / suc (suc b) in
    let parts : q * suc (suc b) + a % suc (suc b) ≡ a = div-add-mod' a (suc (suc b)) in
    let more : q * suc (suc b) ≡ q * b + 2 * q = omega arith in
    omega (arith, parts, more)

-- the least negative number by -1, as whole numbers
abbrev IsLeast : ℕ → ℤ → ℤ → Type 0
IsLeast w (pos a) y = ⊥
IsLeast w (negsuc a) y = (2 * (a + 1) ≡ 2 ^ w) × (y ≡ negsuc 0)

quotient_held : (s : Bool) (w : ℕ) (x y : ℤ) → Holds s w x → Holds s w y → ((s ≡ true) × IsLeast w x y) ⊎ Holds s w (int_div x y)
quotient_held false w (pos a) (pos b) hx hy = let less : a / b ≤ a = div-le_self a b in inr (omega (arith, less, hx))
quotient_held false w (pos a) (negsuc b) hx hy = absurd hy
quotient_held false w (negsuc a) y hx hy = absurd hx
quotient_held true w (pos a) (pos b) hx hy = let less : a / b ≤ a = div-le_self a b in inr (omega (arith, less, hx))
quotient_held true w (pos a) (negsuc b) hx hy = inr (held_at_most w (a / suc b) a (div-le_self a (suc b)) (omega (arith, hx)))
quotient_held true w (negsuc a) (pos b) hx hy = inr (held_at_most w (suc a / b) (suc a) (div-le_self (suc a) b) (omega (arith, hx)))
quotient_held true w (negsuc a) (negsuc zero) hx hy =
    let less : suc a / 1 ≤ suc a = div-le_self (suc a) 1 in
    elim (cases_lt (2 * (a + 1)) (2 ^ w)) [
      | inl few ↦ inr (omega (arith, less, few))
      | inr most ↦ inl (refl, (omega (arith, hx, most), refl))
    ]
quotient_held true w (negsuc a) (negsuc (suc b)) hx hy =
    let less : 2 * (suc a / suc (suc b)) ≤ suc a = half (suc a) (suc b) (omega arith) in
    inr (omega (arith, less, hx))

-- what stands for them
least_value : (w a : ℕ) (x y : ℤ) → residue w x ≡ a → IsLeast w x y → 2 * a ≡ 2 ^ w
least_value w a (pos n) y e h = absurd h
least_value w a (negsuc n) y e h =
    let fits : n < 2 ^ w = omega (arith, h.0) in
    let low : n % 2 ^ w ≡ n = mod-eq_of_lt fits in
    omega (arith, e, low, h.0)

least_divisor : (w b : ℕ) (x y : ℤ) → residue w y ≡ b → IsLeast w x y → b ≡ 2 ^ w - 1
least_divisor w b (pos n) y e h = absurd h
least_divisor w b (negsuc n) y e h =
    let low : 0 % 2 ^ w ≡ 0 = mod-eq_of_lt (pow_pos w) in
    sym e ∙ ap (residue w) h.1 ∙ ap (λ k. (2 ^ w - 1) - k) low ∙ omega arith

quotient_exact : (s : Bool) (w a b : ℕ) → a < 2 ^ w → b < 2 ^ w → div s w a b ≡ residue w (int_div (integer s w a) (integer s w b))
    → integer s w (rem s w a b) ≡ int_rem (integer s w a) (integer s w b)
    → IsBeyond s w a b ⊎ (integer s w (div s w a b) *ℤ integer s w b +ℤ integer s w (rem s w a b) ≡ integer s w a)
quotient_exact s w a b fits_a fits_b q_is back =
    let x : ℤ = integer s w a in let y : ℤ = integer s w b in
    elim (quotient_held s w x y (integer_held s w a fits_a) (integer_held s w b fits_b)) [
      | inl least ↦
          inl (least.0, least_value w a x y (residue_integer s w a fits_a) least.1, least_divisor w b x y (residue_integer s w b fits_b) least.1)
      | inr held ↦
          let same : integer s w (div s w a b) ≡ int_div x y = ap (integer s w) q_is ∙ integer_residue s w (int_div x y) held in
          inr (ap (λ z. z *ℤ y +ℤ integer s w (rem s w a b)) same ∙ ap (λ z. int_div x y *ℤ y +ℤ z) back ∙ quot-rem x y)
    ]

-- ---- the remainder's sign

not_below : (n : ℕ) → int_lt (pos n) (pos 0) ≡ false
not_below n = le-ltb n 0 (omega arith)

remainder_sign : (x y : ℤ) → (int_rem x y ≡ pos 0) ⊎ (int_lt (int_rem x y) (pos 0) ≡ int_lt x (pos 0))
remainder_sign (pos a) y = inr (not_below (a % unsigned_abs y) ∙ sym (not_below a))
remainder_sign (negsuc a) y = negated (suc a % unsigned_abs y)
  where
    negated : (r : ℕ) → (neg_ℤ (pos r) ≡ pos 0) ⊎ (int_lt (neg_ℤ (pos r)) (pos 0) ≡ true)
    negated zero = inl refl
    negated (suc r) = inr refl

value_sign : (s : Bool) (w r : ℕ) (x y : ℤ) → r ≡ residue w (int_rem x y) → integer s w r ≡ int_rem x y
    → (r ≡ 0) ⊎ (int_lt (integer s w r) (pos 0) ≡ int_lt x (pos 0))
value_sign s w r x y is back =
    elim (remainder_sign x y) [
      | inl none ↦ inl (is ∙ ap (residue w) none ∙ mod-eq_of_lt (pow_pos w))
      | inr same ↦ inr (ap (λ z. int_lt z (pos 0)) back ∙ same)
    ]

pub fits_together : (s : Bool) (w a b : ℕ) → a < 2 ^ w → b < 2 ^ w → b ≢ 0 → QuotientFitsRemainder s w a b
fits_together s w a b fits_a fits_b some =
    let x : ℤ = integer s w a in let y : ℤ = integer s w b in
    let q_is : div s w a b ≡ residue w (int_div x y) = rw (ne_eqb b 0 some) refl in
    let r_is : rem s w a b ≡ residue w (int_rem x y) = rw (ne_eqb b 0 some) refl in
    let below : unsigned_abs (int_rem x y) < unsigned_abs y = rem_below x y (some_size s w b fits_b some) in
    let back : integer s w (rem s w a b) ≡ int_rem x y = ap (integer s w) r_is ∙ integer_residue s w (int_rem x y) (remainder_held s w x y (integer_held s w a fits_a)) in
    record {
      whole = ap (λ k. ((k * b) % 2 ^ w + rem s w a b) % 2 ^ w) q_is ∙ ap (λ k. ((residue w (int_div x y) * b) % 2 ^ w + k) % 2 ^ w) r_is
          ∙ ap (λ k. ((residue w (int_div x y) * k) % 2 ^ w + residue w (int_rem x y)) % 2 ^ w) (sym (residue_integer s w b fits_b)) ∙ whole_parts w x y ∙ residue_integer s w a fits_a;
      exact = quotient_exact s w a b fits_a fits_b q_is back;
      less = subst (λ z. unsigned_abs z < unsigned_abs y) (sym back) below;
      sign = value_sign s w (rem s w a b) x y r_is back;
    }
