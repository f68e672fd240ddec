-- Whole numbers that a width holds, and their differences.
use Rattle.std.proofs.Common.{◌≡◌, ℕ, zero, suc, ◌+◌, ◌-◌, ◌*◌, ◌%◌, ◌^◌, ◌<◌, ◌≤◌, Bool, true, false, ℤ, pos, negsuc, ◌-ℤ◌, refl, sym, ap, ◌∙◌, inl, inr, arith, lit<}
use Rattle.std.proofs.Math.Nat.{mod-eq_of_lt, add-mod_right, pow-le-pow_right}
use Rattle.std.proofs.lemmas.Int.{ints}
use Rattle.std.proofs.lemmas.Bool.{le-leb, lt-leb, cases_lt}
use Rattle.bit_ops.specs.Operators.{residue, integer, sub}

pub wider : (v w : ℕ) → v ≤ w → 2 ^ v ≤ 2 ^ w
wider v w h = pow-le-pow_right (lit< tt) h

-- a whole number less a greater one, and less one that is no greater
pub below_zero : (a b : ℕ) → a < b → pos a -ℤ pos b ≡ negsuc (b - (a + 1))
below_zero a zero h = absurd (omega arith)
below_zero a (suc b) h =
    let less : suc a ≤ suc b = omega arith in
    let same : suc b - suc a ≡ suc b - (a + 1) = omega arith in
    rw (le-leb (suc a) (suc b) less) (ap negsuc same)

pub above_zero : (a b : ℕ) → b ≤ a → pos a -ℤ pos b ≡ pos (a - b)
above_zero a zero h = ap pos (omega arith)
above_zero a (suc b) h = let more : suc b < suc a = omega arith in rw (lt-leb (suc a) (suc b) more) refl

-- ---- what a number stands for

pub integer_low : (s : Bool) (w n : ℕ) → 2 * n < 2 ^ w → integer s w n ≡ pos n
integer_low false w n h = refl
integer_low true w n h = rw (lt-leb (2 ^ w) (2 * n) h) refl

integer_less : (w n : ℕ) → 2 ^ w ≤ 2 * n → integer true w n ≡ pos n -ℤ pos (2 ^ w)
integer_less w n h = rw (le-leb (2 ^ w) (2 * n) h) refl

pub integer_high : (w n : ℕ) → n < 2 ^ w → 2 ^ w ≤ 2 * n → integer true w n ≡ negsuc (2 ^ w - (n + 1))
integer_high w n fits h = integer_less w n h ∙ below_zero n (2 ^ w) fits

-- the width holds the number
abbrev pub Holds : Bool → ℕ → ℤ → Type 0
Holds false w (pos n) = n < 2 ^ w
Holds false w (negsuc n) = ⊥
Holds true w (pos n) = 2 * n < 2 ^ w
Holds true w (negsuc n) = 2 * (n + 1) ≤ 2 ^ w

pub integer_held : (s : Bool) (w n : ℕ) → n < 2 ^ w → Holds s w (integer s w n)
integer_held false w n h = h
integer_held true w n h =
    elim (cases_lt (2 * n) (2 ^ w)) [
      | inl low ↦ rw (integer_low true w n low) low
      | inr high ↦ rw (integer_high w n h high) (omega arith)
    ]

pub integer_residue : (s : Bool) (w : ℕ) (z : ℤ) → Holds s w z → integer s w (residue w z) ≡ z
integer_residue false w (pos n) h = ap pos (mod-eq_of_lt h)
integer_residue false w (negsuc n) h = absurd h
integer_residue true w (pos n) h =
    let fits : n < 2 ^ w = omega arith in ap (integer true w) (mod-eq_of_lt fits) ∙ integer_low true w n h
integer_residue true w (negsuc n) h =
    let fits : n < 2 ^ w = omega arith in
    let same : residue w (negsuc n) ≡ 2 ^ w - (n + 1) = ap (λ k. (2 ^ w - 1) - k) (mod-eq_of_lt fits) ∙ omega arith in
    let inside : 2 ^ w - (n + 1) < 2 ^ w = omega arith in
    let high : 2 ^ w ≤ 2 * (2 ^ w - (n + 1)) = omega arith in
    ap (integer true w) same ∙ integer_high w (2 ^ w - (n + 1)) inside high ∙ ap negsuc (omega arith)

pub held_wider : (s : Bool) (v w : ℕ) (z : ℤ) → v ≤ w → Holds s v z → Holds s w z
held_wider false v w (pos n) h held = let wide : 2 ^ v ≤ 2 ^ w = wider v w h in omega (arith, wide, held)
held_wider false v w (negsuc n) h held = absurd held
held_wider true v w (pos n) h held = let wide : 2 ^ v ≤ 2 ^ w = wider v w h in omega (arith, wide, held)
held_wider true v w (negsuc n) h held = let wide : 2 ^ v ≤ 2 ^ w = wider v w h in omega (arith, wide, held)

-- with a sign a width that is greater by 2 holds it all the more
pub held_signed : (s : Bool) (w : ℕ) (z : ℤ) → w ≤ 64 → Holds s w z → Holds true 66 z
held_signed false w (pos n) h held = let wide : 2 ^ w ≤ 2 ^ 64 = wider w 64 h in omega (arith, wide, held)
held_signed false w (negsuc n) h held = absurd held
held_signed true w z h held = held_wider true w 66 z (omega (arith, h)) held

-- ---- differences

below_less : (a p : ℕ) → negsuc a -ℤ pos p ≡ negsuc (a + p)
below_less a p = omega (arith, ints)

residue_less : (w : ℕ) (z : ℤ) → residue w (z -ℤ pos (2 ^ w)) ≡ residue w z
residue_less w (negsuc a) =
    ap (residue w) (below_less a (2 ^ w)) ∙ ap (λ k. (2 ^ w - 1) - k) (add-mod_right a (2 ^ w))
residue_less w (pos a) =
    elim (cases_lt a (2 ^ w)) [
      | inl less ↦
          let inside : 2 ^ w - (a + 1) < 2 ^ w = omega (arith, less) in
          ap (residue w) (below_zero a (2 ^ w) less) ∙ ap (λ k. (2 ^ w - 1) - k) (mod-eq_of_lt inside) ∙ omega (arith, less)
          ∙ sym (mod-eq_of_lt less)
      | inr more ↦
          let whole : (a - 2 ^ w) + 2 ^ w ≡ a = omega (arith, more) in
          ap (residue w) (above_zero a (2 ^ w) more) ∙ sym (add-mod_right (a - 2 ^ w) (2 ^ w)) ∙ ap (λ k. k % 2 ^ w) whole
    ]

first_less : (n m p : ℕ) → (pos n -ℤ pos p) -ℤ pos m ≡ (pos n -ℤ pos m) -ℤ pos p
first_less n m p = omega (arith, ints)

second_less : (n m p : ℕ) → (pos n -ℤ (pos m -ℤ pos p)) -ℤ pos p ≡ pos n -ℤ pos m
second_less n m p = omega (arith, ints)

both_less : (n m p : ℕ) → (pos n -ℤ pos p) -ℤ (pos m -ℤ pos p) ≡ pos n -ℤ pos m
both_less n m p = omega (arith, ints)

-- a difference modulo 2^w is that of what both stand for
sub_is : (w n m : ℕ) → sub w n m ≡ residue w (integer true w n -ℤ integer true w m)
sub_is w n m = elim (cases_lt (2 * n) (2 ^ w)) [
  | inl low ↦ elim (cases_lt (2 * m) (2 ^ w)) [
    | inl below ↦ rw (integer_low true w n low, integer_low true w m below) refl
    | inr above ↦
        rw (integer_low true w n low, integer_less w m above)
        (ap (residue w) (sym (second_less n m (2 ^ w))) ∙ residue_less w (pos n -ℤ (pos m -ℤ pos (2 ^ w))))
  ]
  | inr high ↦ elim (cases_lt (2 * m) (2 ^ w)) [
    | inl below ↦
        rw (integer_less w n high, integer_low true w m below)
        (sym (ap (residue w) (first_less n m (2 ^ w)) ∙ residue_less w (pos n -ℤ pos m)))
    | inr above ↦
        rw (integer_less w n high, integer_less w m above) (ap (residue w) (sym (both_less n m (2 ^ w))))
  ]
]

-- and so exact where the width holds it
pub difference_is : (w n m : ℕ) (x y : ℤ) → integer true w n ≡ x → integer true w m ≡ y → Holds true w (x -ℤ y)
    → integer true w (sub w n m) ≡ x -ℤ y
difference_is w n m x y a b held =
    ap (integer true w) (sub_is w n m ∙ ap (λ i. residue w (i -ℤ integer true w m)) a ∙ ap (λ i. residue w (x -ℤ i)) b)
    ∙ integer_residue true w (x -ℤ y) held
