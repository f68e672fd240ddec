-- Indices, of which those of more than 64 bits are clamped.
use Rattle.std.proofs.Common.{◌≡◌, ℕ, ◌+◌, ◌-◌, ◌*◌, ◌%◌, ◌^◌, ◌<◌, ◌≤◌, ◌||◌, Bool, true, false, ℤ, pos, negsuc, ◌⊎◌, refl, sym, ap, ◌∙◌, subst, inl, inr, arith, if◌then◌else◌}
use Rattle.std.specs.Prelude.{◌==◌}
use Rattle.std.proofs.Math.Nat.{mod-eq_of_lt, mod-lt}
use Rattle.std.proofs.lemmas.Bool.{le-leb, lt-leb, cases_lt, eq-eqb, eqb-true}
use Rattle.std.proofs.lemmas.Nat.{pow_pos, pow-add, mod_low}
use Rattle.bit_ops.specs.Operators as ops
use Rattle.bit_ops.specs.Operators.{residue, integer, extend, low}
use Rattle.vl_nodes.specs.Sense.{chosen}
use Rattle.vl_places.specs.Steps.{clamped, near}
use Rattle.vl_places.proofs.Integers.{Holds, wider, integer_low, integer_high, integer_held, integer_residue, held_wider, held_signed}

-- ---- the nodes of a clamp

pub chosen_bit : (t : Bool) (a b : ℕ) → chosen (ops.bit t) a b ≡ (if t then a else b)
chosen_bit true a b = refl
chosen_bit false a b = refl

pub read_again : (b : Bool) → (b || b) || (b || false) ≡ b
read_again true = refl
read_again false = refl

pub near_short : (s : Bool) (w n : ℕ) → w ≤ 64 → extend s w 70 n ≡ near s w n
near_short s w n h = rw (le-leb w 64 h) refl

pub near_long : (s : Bool) (w n : ℕ) → 64 < w → extend s 64 70 (clamped s w n) ≡ near s w n
near_long s w n h = rw (lt-leb w 64 h) refl

-- ---- far and near

-- so far away that no vector has a bit there
abbrev pub IsFar : ℤ → Type 0
IsFar (pos k) = 2 ^ 62 ≤ k
IsFar (negsuc k) = 2 ^ 62 ≤ k

-- an index that stands for another: the same, or far away as that is too
abbrev pub StandsFor : ℤ → ℤ → Type 0
StandsFor y z = (y ≡ z) ⊎ (IsFar y × IsFar z)

-- a number near 0 is held by 64 bits, and so given back
kept_low : (s : Bool) (w k : ℕ) → k < 2 ^ 62 → k < 2 ^ w → extend s 64 w (low 64 k) ≡ k
kept_low s w k less fits =
    let short : k < 2 ^ 64 = omega (arith, less) in
    let half : 2 * k < 2 ^ 64 = omega (arith, less) in
    ap (extend s 64 w) (mod-eq_of_lt short) ∙ ap (residue w) (integer_low s 64 k half) ∙ mod-eq_of_lt fits

kept_below : (w n k : ℕ) → 64 ≤ w → k < 2 ^ 62 → n ≡ 2 ^ w - (k + 1) → extend true 64 w (low 64 n) ≡ n
kept_below w n k long less e =
    let q : ℕ = 2 ^ (w - 64) in
    let wide : 2 ^ 64 ≤ 2 ^ w = wider 64 w long in
    let split : w ≡ (w - 64) + 64 = omega (arith, long) in
    let whole : 2 ^ w ≡ q * 2 ^ 64 = ap (λ i. 2 ^ i) split ∙ pow-add 2 (w - 64) 64 in
    let some : 1 ≤ q = omega (arith, wide, whole) in
    let parts : n ≡ (q - 1) * 2 ^ 64 + (2 ^ 64 - (k + 1)) = omega (arith, e, whole, some, less) in
    let last : 2 ^ 64 - (k + 1) < 2 ^ 64 = omega (arith, less) in
    let high : 2 ^ 64 ≤ 2 * (2 ^ 64 - (k + 1)) = omega (arith, less) in
    let inside : k < 2 ^ w = omega (arith, less, wide) in
    let lower : low 64 n ≡ 2 ^ 64 - (k + 1) = ap (λ i. i % 2 ^ 64) parts ∙ mod_low (q - 1) 64 (2 ^ 64 - (k + 1)) last in
    let same : 2 ^ 64 - ((2 ^ 64 - (k + 1)) + 1) ≡ k = omega (arith, less) in
    ap (extend true 64 w) lower ∙ ap (residue w) (integer_high 64 (2 ^ 64 - (k + 1)) last high ∙ ap negsuc same)
    ∙ ap (λ i. (2 ^ w - 1) - i) (mod-eq_of_lt inside) ∙ omega (arith, e, inside)

-- so what 64 bits don't give back is far away
far_low : (s : Bool) (w n : ℕ) → n < 2 ^ w → (extend s 64 w (low 64 n) == n) ≡ false → 2 ^ 62 ≤ n
far_low s w n fits h = elim (cases_lt n (2 ^ 62)) [
  | inl less ↦ let e : true ≡ false = sym (eq-eqb (extend s 64 w (low 64 n)) n (kept_low s w n less fits)) ∙ h in absurd cc
  | inr more ↦ more
]

far_below : (w n k : ℕ) → 64 ≤ w → n ≡ 2 ^ w - (k + 1) → (extend true 64 w (low 64 n) == n) ≡ false → 2 ^ 62 ≤ k
far_below w n k long e h = elim (cases_lt k (2 ^ 62)) [
  | inl less ↦ let f : true ≡ false = sym (eq-eqb (extend true 64 w (low 64 n)) n (kept_below w n k long less e)) ∙ h in absurd cc
  | inr more ↦ more
]

far_index : (s : Bool) (w n : ℕ) → 64 ≤ w → n < 2 ^ w → (extend s 64 w (low 64 n) == n) ≡ false → IsFar (integer s w n)
far_index false w n long fits h = far_low false w n fits h
far_index true w n long fits h = elim (cases_lt (2 * n) (2 ^ w)) [
  | inl below ↦ subst IsFar (sym (integer_low true w n below)) (far_low true w n fits h)
  | inr above ↦
      let same : n ≡ 2 ^ w - ((2 ^ w - (n + 1)) + 1) = omega (arith, fits) in
      subst IsFar (sym (integer_high w n fits above)) (far_below w n (2 ^ w - (n + 1)) long same h)
]

-- ---- an index at 70 bits

at_seventy : (s : Bool) (w n : ℕ) → w ≤ 64 → n < 2 ^ w → integer true 70 (extend s w 70 n) ≡ integer s w n
at_seventy s w n h fits =
    integer_residue true 70 (integer s w n)
    (held_wider true 66 70 (integer s w n) (omega arith) (held_signed s w (integer s w n) h (integer_held s w n fits)))

small_at : (s : Bool) (w n : ℕ) → w ≤ 64 → n < 2 ^ w → Holds true 66 (integer true 70 (extend s w 70 n))
small_at s w n h fits =
    subst (Holds true 66) (sym (at_seventy s w n h fits)) (held_signed s w (integer s w n) h (integer_held s w n fits))

clamped_fits : (s : Bool) (w n : ℕ) → clamped s w n < 2 ^ 64
clamped_fits s w n = by_test (extend s 64 w (low 64 n) == n)
  where
    by_test : (t : Bool) → (if t then low 64 n else 2 ^ 63 - 1) < 2 ^ 64
    by_test true = mod-lt n (pow_pos 64)
    by_test false = omega arith

clamped_is : (s : Bool) (w n : ℕ) → 64 < w → n < 2 ^ w → StandsFor (integer s 64 (clamped s w n)) (integer s w n)
clamped_is s w n long fits = by_test (extend s 64 w (low 64 n) == n) refl
  where
    by_test : (t : Bool) → (extend s 64 w (low 64 n) == n) ≡ t
        → StandsFor (integer s 64 (if t then low 64 n else 2 ^ 63 - 1)) (integer s w n)
    by_test true h =
        let z : ℤ = integer s 64 (low 64 n) in
        let held = held_wider s 64 w z (omega (arith, long)) (integer_held s 64 (low 64 n) (mod-lt n (pow_pos 64))) in
        inl (sym (integer_residue s w z held) ∙ ap (integer s w) (eqb-true (extend s 64 w (low 64 n)) n h))
    by_test false h =
        let far : IsFar (integer s 64 (2 ^ 63 - 1)) = subst IsFar (sym (integer_low s 64 (2 ^ 63 - 1) (omega arith))) (omega arith) in
        inr (far, far_index s w n (omega (arith, long)) fits h)

pub near_small : (s : Bool) (w n : ℕ) → n < 2 ^ w → Holds true 66 (integer true 70 (near s w n))
near_small s w n fits = elim (cases_lt 64 w) [
  | inl long ↦
      subst (λ k. Holds true 66 (integer true 70 k)) (near_long s w n long)
      (small_at s 64 (clamped s w n) (omega arith) (clamped_fits s w n))
  | inr short ↦ subst (λ k. Holds true 66 (integer true 70 k)) (near_short s w n short) (small_at s w n short fits)
]

pub near_is : (s : Bool) (w n : ℕ) → n < 2 ^ w → StandsFor (integer true 70 (near s w n)) (integer s w n)
near_is s w n fits = elim (cases_lt 64 w) [
  | inl long ↦
      subst (λ k. StandsFor (integer true 70 k) (integer s w n)) (near_long s w n long)
      (subst (λ z. StandsFor z (integer s w n)) (sym (at_seventy s 64 (clamped s w n) (omega arith) (clamped_fits s w n)))
      (clamped_is s w n long fits))
  | inr short ↦
      inl (ap (integer true 70) (sym (near_short s w n short)) ∙ at_seventy s w n short fits)
]
