-- Whole numbers that a width holds.
use Rattle.std.proofs.Common.{◌≡◌, ℕ, ◌+◌, ◌-◌, ◌*◌, ◌^◌, ◌<◌, ◌≤◌, Bool, true, false, ℤ, pos, negsuc, ap, ◌∙◌, inl, inr, arith}
use Rattle.std.proofs.Math.Nat.{mod-eq_of_lt}
use Rattle.std.proofs.lemmas.Bool.{cases_lt}
use Rattle.bit_ops.specs.Operators.{residue, integer}
use Rattle.bit_ops.proofs.Residues.{wider}
use Rattle.bit_ops.proofs.Signs.{integer_low, integer_high}

-- the width holds the number: without sign from 0, with it from half as much below 0 as there are numbers
abbrev pub Holds : Bool → ℕ → ℤ → Type 0
Holds false w (pos n) = n < 2 ^ w
Holds false w (negsuc n) = ⊥
Holds true w (pos n) = 2 * n < 2 ^ w
Holds true w (negsuc n) = 2 * (n + 1) ≤ 2 ^ w

-- what a value of the width stands for is held
pub integer_held : (s : Bool) (w n : ℕ) → n < 2 ^ w → Holds s w (integer s w n)
integer_held false w n h = h
integer_held true w n h =
    elim (cases_lt (2 * n) (2 ^ w)) [
      | inl low ↦ rw (integer_low true w n low) low
      | inr high ↦ rw (integer_high w n h high) (omega arith)
    ]

-- a number that is held is what its residue stands for
pub integer_residue : (s : Bool) (w : ℕ) (z : ℤ) → Holds s w z → integer s w (residue w z) ≡ z
integer_residue false w (pos n) h = ap pos (mod-eq_of_lt h)
integer_residue false w (negsuc n) h = absurd h
integer_residue true w (pos n) h =
    let fits : n < 2 ^ w = omega arith in ap (integer true w) (mod-eq_of_lt fits) ∙ integer_low true w n h
integer_residue true w (negsuc n) h =
    let fits : n < 2 ^ w = omega arith in
    let same : residue w (negsuc n) ≡ 2 ^ w - (n + 1) = ap (λ k. (2 ^ w - 1) - k) (mod-eq_of_lt fits) ∙ omega arith in
    let inside : 2 ^ w - (n + 1) < 2 ^ w = omega arith in
    let high : 2 ^ w ≤ 2 * (2 ^ w - (n + 1)) = omega arith in
    ap (integer true w) same ∙ integer_high w (2 ^ w - (n + 1)) inside high ∙ ap negsuc (omega arith)

-- and a larger width holds it too
pub held_wider : (s : Bool) (v w : ℕ) (z : ℤ) → v ≤ w → Holds s v z → Holds s w z
held_wider false v w (pos n) h held = let wide : 2 ^ v ≤ 2 ^ w = wider v w h in omega (arith, wide, held)
held_wider false v w (negsuc n) h held = absurd held
held_wider true v w (pos n) h held = let wide : 2 ^ v ≤ 2 ^ w = wider v w h in omega (arith, wide, held)
held_wider true v w (negsuc n) h held = let wide : 2 ^ v ≤ 2 ^ w = wider v w h in omega (arith, wide, held)

-- the value of a width is its own residue
pub residue_integer : (s : Bool) (w n : ℕ) → n < 2 ^ w → residue w (integer s w n) ≡ n
residue_integer false w n h = mod-eq_of_lt h
residue_integer true w n h =
    elim (cases_lt (2 * n) (2 ^ w)) [
      | inl low ↦ ap (residue w) (integer_low true w n low) ∙ mod-eq_of_lt h
      | inr high ↦
          let inside : 2 ^ w - (n + 1) < 2 ^ w = omega arith in
          ap (residue w) (integer_high w n h high) ∙ ap (λ k. (2 ^ w - 1) - k) (mod-eq_of_lt inside) ∙ omega arith
    ]
