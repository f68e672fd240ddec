-- The first of the parts of which something holds.
use Rattle.std.proofs.Common.{◌≡◌, ℕ, ◌⊎◌, inl, inr, Bool, true, false, List, refl, sym, ap, subst, arith}
use Rattle.std.specs.Prelude.{Option, None, Some, slice_index, if◌then◌else◌}
use Rattle.std.proofs.lemmas.Bool.{cases_Bool}
use Rattle.std.proofs.lemmas.Bool.Decides.{nat_tests}
use Rattle.comb_order.specs.First.{ComesFirst, IsFirst, comes_first, first_of}

yes_first : (ranks : List ℕ) (a b : ℕ) → comes_first ranks a b ≡ true → ComesFirst ranks a b
yes_first ranks a b h = grind (arith, nat_tests)

not_first : (ranks : List ℕ) (a b : ℕ) → comes_first ranks a b ≡ false → ComesFirst ranks b a
not_first ranks a b h = grind (arith, nat_tests)

pub comes_trans : (ranks : List ℕ) (a b c : ℕ) → ComesFirst ranks a b → ComesFirst ranks b c → ComesFirst ranks a c
comes_trans ranks a b c p q = grind arith

-- the first of those of which the one or the other holds
pub first_of_both : (ranks : List ℕ) (P Q : ℕ → Type 0) (a b : Option ℕ) → IsFirst ranks P a → IsFirst ranks Q b
    → IsFirst ranks (λ q. P q ⊎ Q q) (first_of ranks a b)
first_of_both ranks P Q None None h g = λ q e. elim e [ inl p ↦ h q p | inr p ↦ g q p ]
first_of_both ranks P Q None (Some b) h g = (inr g.0, λ q e. elim e [ inl p ↦ absurd (h q p) | inr p ↦ g.1 q p ])
first_of_both ranks P Q (Some a) None h g = (inl h.0, λ q e. elim e [ inl p ↦ h.1 q p | inr p ↦ absurd (g q p) ])
first_of_both ranks P Q (Some a) (Some b) h g = elim (cases_Bool (comes_first ranks a b)) [
  | inl t ↦ subst (λ (c : Bool). IsFirst ranks (λ q. P q ⊎ Q q) (Some (if c then a else b))) (sym t) (
    inl h.0,
    λ q e. elim e [
      | inl p ↦ h.1 q p
      | inr p ↦ comes_trans ranks a b q (yes_first ranks a b t) (g.1 q p)
    ],
  )
  | inr t ↦ subst (λ (c : Bool). IsFirst ranks (λ q. P q ⊎ Q q) (Some (if c then a else b))) (sym t) (
    inr g.0,
    λ q e. elim e [
      | inl p ↦ comes_trans ranks b a q (not_first ranks a b t) (h.1 q p)
      | inr p ↦ g.1 q p
    ],
  )
]

-- where the same holds of the same parts, the first is the same
pub first_same : (ranks : List ℕ) (P Q : ℕ → Type 0) (a : Option ℕ) → ((q : ℕ) → P q → Q q) → ((q : ℕ) → Q q → P q)
    → IsFirst ranks P a → IsFirst ranks Q a
first_same ranks P Q None to from h = λ q e. h q (from q e)
first_same ranks P Q (Some a) to from h = (to a h.0, λ q e. h.1 q (from q e))

-- one alone
pub first_alone : (ranks : List ℕ) (a : ℕ) → IsFirst ranks (λ q. q ≡ a) (Some a)
first_alone ranks a = (refl, λ q e. inr (ap (slice_index ranks) (sym e), omega arith))
