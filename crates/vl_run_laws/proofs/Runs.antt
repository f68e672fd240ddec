-- The maximal runs of a signal's bits that have one owner.
use Rattle.std.proofs.Common.{◌≡◌, ℕ, zero, suc, ◌+◌, ◌==◌, ◌<◌, ◌≤◌, ◌⊎◌, inl, inr, Bool, true, false, ◌&&◌, if◌then◌else◌, List, [], ◌∷◌, refl, sym, ap, subst, ◌∙◌, arith}
use Rattle.std.specs.Prelude.{Option, Some, None, slice_get}
use Rattle.std.proofs.lemmas.Bool.{eqb-true, eq-eqb}
use Rattle.netlist.proofs.Puts.{In}
use Rattle.vl_process.specs.Parts.{Part, begins_with, runs}
use Rattle.vl_run_laws.specs.Parts.{StandsApart}

-- ---- where a run begins: with the part above it, or beside it

both : (a b : Bool) → ((a ≡ true) × (b ≡ true) × ((a && b) ≡ true)) ⊎ ((a ≡ true → b ≡ true → ⊥) × ((a && b) ≡ false))
both true true = inl (refl, refl, refl)
both true false = inr (λ x y. absurd cc, refl)
both false b = inr (λ x y. absurd cc, refl)

abbrev alone : ℕ → ℕ → ℕ → Part
alone x k n = record { signal = x; low = k; width = 1; owner = n }

abbrev longer : ℕ → ℕ → ℕ → Part → Part
longer x k n r = record { signal = x; low = k; width = suc r.width; owner = n }

abbrev chosen : ℕ → ℕ → ℕ → Part → List Part → Bool → List Part
chosen x k n r rs c = if c then longer x k n r ∷ rs else alone x k n ∷ (r ∷ rs)

-- a part whose bits have its owner in a list that begins at a place of a signal
pub record Inside (x k : ℕ) (os : List (Option ℕ)) (q : Part) : Type 0 where
  pub signal : q.signal ≡ x
  pub from : k ≤ q.low
  pub some : 1 ≤ q.width
  pub each : (i : ℕ) → q.low ≤ k + i → k + i < q.low + q.width → slice_get os i ≡ Some (Some q.owner)

inside_later : (x k : ℕ) (o : Option ℕ) (os : List (Option ℕ)) (q : Part) → Inside x (suc k) os q → Inside x k (o ∷ os) q
inside_later x k o os q p = record {
  signal = p.signal;
  from = omega (arith, p.from);
  some = p.some;
  each = each;
} where
  each : (i : ℕ) → q.low ≤ k + i → k + i < q.low + q.width → slice_get (o ∷ os) i ≡ Some (Some q.owner)
  each zero a b = absurd (omega (arith, p.from, a))
  each (suc i) a b = p.each i (omega (arith, a)) (omega (arith, b))

inside_alone : (x k n : ℕ) (os : List (Option ℕ)) → Inside x k (Some n ∷ os) (alone x k n)
inside_alone x k n os = record { signal = refl; from = omega arith; some = omega arith; each = each } where
  each : (i : ℕ) → k ≤ k + i → k + i < k + 1 → slice_get (Some n ∷ os) i ≡ Some (Some n)
  each zero a b = refl
  each (suc i) a b = absurd (omega (arith, b))

inside_longer : (x k n : ℕ) (os : List (Option ℕ)) (r : Part) → r.low ≡ suc k → r.owner ≡ n → Inside x (suc k) os r
    → Inside x k (Some n ∷ os) (longer x k n r)
inside_longer x k n os r low own p = record { signal = refl; from = omega arith; some = omega arith; each = each } where
  each : (i : ℕ) → k ≤ k + i → k + i < k + suc r.width → slice_get (Some n ∷ os) i ≡ Some (Some n)
  each zero a b = refl
  each (suc i) a b = p.each i (omega (arith, low)) (omega (arith, low, b)) ∙ ap (λ (m : ℕ). Some (Some m)) own

begun_inside : (x k n : ℕ) (os : List (Option ℕ)) (qs : List Part) → ((r : Part) → In r qs → Inside x (suc k) os r)
    → (q : Part) → In q (begins_with x k n qs) → Inside x k (Some n ∷ os) q
begun_inside x k n os [] all q h = elim h [
  | inl e ↦ subst (Inside x k (Some n ∷ os)) (sym e) (inside_alone x k n os)
  | inr none ↦ absurd none
]
begun_inside x k n os (r ∷ rs) all q h = elim (both (r.low == suc k) (r.owner == n)) [
  | inl joins ↦ elim (subst (λ c. In q (chosen x k n r rs c)) joins.2 h) [
    | inl e ↦ subst (Inside x k (Some n ∷ os)) (sym e)
        (inside_longer x k n os r (eqb-true r.low (suc k) joins.0) (eqb-true r.owner n joins.1) (all r (inl refl)))
    | inr later ↦ inside_later x k (Some n) os q (all q (inr later))
  ]
  | inr other ↦ elim (subst (λ c. In q (chosen x k n r rs c)) other.1 h) [
    | inl e ↦ subst (Inside x k (Some n ∷ os)) (sym e) (inside_alone x k n os)
    | inr later ↦ inside_later x k (Some n) os q (all q later)
  ]
]

pub runs_inside : (x k : ℕ) (os : List (Option ℕ)) (q : Part) → In q (runs x k os) → Inside x k os q
runs_inside x k [] q h = absurd h
runs_inside x k (None ∷ os) q h = inside_later x k None os q (runs_inside x (suc k) os q h)
runs_inside x k (Some n ∷ os) q h =
    begun_inside x k n os (runs x (suc k) os) (λ r. runs_inside x (suc k) os r) q h

-- ---- each bit with an owner lies in a run

pub record Held (qs : List Part) (p : ℕ) : Type 0 where
  pub part : Part
  pub among : In part qs
  pub from : part.low ≤ p
  pub to : p < part.low + part.width

-- where the run begins, and a place above it that lies in a part already
first_held : (x k n : ℕ) (qs : List Part) → Held (begins_with x k n qs) k
first_held x k n [] = record { part = alone x k n; among = inl refl; from = omega arith; to = omega arith }
first_held x k n (r ∷ rs) = elim (both (r.low == suc k) (r.owner == n)) [
  | inl joins ↦ subst (λ c. Held (chosen x k n r rs c) k) (sym joins.2)
      (record { part = longer x k n r; among = inl refl; from = omega arith; to = omega arith })
  | inr other ↦ subst (λ c. Held (chosen x k n r rs c) k) (sym other.1)
      (record { part = alone x k n; among = inl refl; from = omega arith; to = omega arith })
]

still_held : (x k n p : ℕ) (qs : List Part) → suc k ≤ p → Held qs p → Held (begins_with x k n qs) p
still_held x k n p [] above h = absurd h.among
still_held x k n p (r ∷ rs) above h = elim (both (r.low == suc k) (r.owner == n)) [
  | inl joins ↦ subst (λ c. Held (chosen x k n r rs c) p) (sym joins.2) (elim h.among [
    | inl own ↦
        let low : r.low ≡ suc k = eqb-true r.low (suc k) joins.0 in
        let to : p < r.low + r.width = subst (λ (q : Part). p < q.low + q.width) own h.to in
        record { part = longer x k n r; among = inl refl; from = omega (arith, above); to = omega (arith, low, to) }
    | inr later ↦ record { part = h.part; among = inr later; from = h.from; to = h.to }
  ])
  | inr other ↦ subst (λ c. Held (chosen x k n r rs c) p) (sym other.1)
      (record { part = h.part; among = inr h.among; from = h.from; to = h.to })
]

pub runs_held : (x k p i n : ℕ) (os : List (Option ℕ)) → p ≡ k + i → slice_get os i ≡ Some (Some n) → Held (runs x k os) p
runs_held x k p i n [] is at = absurd cc
runs_held x k p zero n (None ∷ os) is at = absurd cc
runs_held x k p (suc i) n (None ∷ os) is at = runs_held x (suc k) p i n os (omega (arith, is)) at
runs_held x k p zero n (Some m ∷ os) is at =
    let here : k ≡ p = omega (arith, is) in
    subst (Held (begins_with x k m (runs x (suc k) os))) here (first_held x k m (runs x (suc k) os))
runs_held x k p (suc i) n (Some m ∷ os) is at =
    still_held x k m p (runs x (suc k) os) (omega (arith, is)) (runs_held x (suc k) p i n os (omega (arith, is)) at)

-- ---- runs stand in order, and two that meet have different owners

abbrev pub Before : Part → List Part → Type 0
Before q [] = Unit {0}
Before q (r ∷ rs) = StandsApart q r

abbrev pub Sorted : List Part → Type 0
Sorted [] = Unit {0}
Sorted (q ∷ qs) = Before q qs × Sorted qs

longer_before : (x k n : ℕ) (r : Part) (rs : List Part) → r.signal ≡ x → r.low ≡ suc k → r.owner ≡ n → Before r rs
    → Before (longer x k n r) rs
longer_before x k n r [] of low own b = tt
longer_before x k n r (s ∷ rs) of low own b = elim b [
  | inl less ↦ inl (subst (λ y. y < s.signal) of less)
  | inr meets ↦ inr (
    sym of ∙ meets.0,
    omega (arith, low, meets.1),
    λ e o. meets.2 (omega (arith, low, e)) (own ∙ o),
  )
]

begun_sorted : (x k n : ℕ) (qs : List Part) → ((r : Part) → In r qs → (r.signal ≡ x) × (suc k ≤ r.low)) → Sorted qs
    → Sorted (begins_with x k n qs)
begun_sorted x k n [] all z = (tt, tt)
begun_sorted x k n (r ∷ rs) all z = elim (both (r.low == suc k) (r.owner == n)) [
  | inl joins ↦ subst (λ c. Sorted (chosen x k n r rs c)) (sym joins.2)
      (longer_before x k n r rs (all r (inl refl)).0 (eqb-true r.low (suc k) joins.0) (eqb-true r.owner n joins.1) z.0, z.1)
  | inr other ↦ subst (λ c. Sorted (chosen x k n r rs c)) (sym other.1) (
    inr (
      sym (all r (inl refl)).0,
      omega (arith, (all r (inl refl)).1),
      λ e o.
          let low : r.low ≡ suc k = omega (arith, e) in
          other.0 (eq-eqb r.low (suc k) low) (eq-eqb r.owner n (sym o)),
    ),
    z,
  )
]

pub runs_sorted : (x k : ℕ) (os : List (Option ℕ)) → Sorted (runs x k os)
runs_sorted x k [] = tt
runs_sorted x k (None ∷ os) = runs_sorted x (suc k) os
runs_sorted x k (Some n ∷ os) =
    begun_sorted x k n (runs x (suc k) os) (λ r h. let p = runs_inside x (suc k) os r h in (p.signal, p.from))
    (runs_sorted x (suc k) os)
