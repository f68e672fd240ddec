-- Ranges in order, and which of them has a bit.
use Rattle.std.proofs.Common.{◌≡◌, ℕ, suc, ◌+◌, ◌<◌, ◌≤◌, inl, inr, List, length, map, get_or, sym, subst, arith}
use Rattle.std.proofs.lemmas.Bool.{cases_lt, cases_order}
use Rattle.std.proofs.lemmas.List.{get_or_default, get_or-map, length-map}
use Rattle.netlist.specs.Fits.{IsBefore, AreInOrder}
use Rattle.netlist.specs.Laws.{HasBit}
use Rattle.netlist.specs.declared.design.Range.{Range}
use Rattle.netlist.proofs.Apart.{before_trans, all_before}
use Rattle.net_compile.specs.Pieces.{one_bit, IsFirstNotBefore}

abbrev pub blank : Range
blank = record { signal = 0; low = 0; width = 0 }

-- ranges stand before one before which the last of them stands
pub before_too : (xs : List Range) → AreInOrder (λ r. r) xs → (m : ℕ) (q : Range) → m < length xs
    → IsBefore (get_or xs m blank) q → (k : ℕ) (d : Range) → k < m + 1 → IsBefore (get_or xs k d) q
before_too xs o m q l b k d h =
    let here : IsBefore (get_or xs m d) q = subst (λ x. IsBefore x q) (get_or_default xs m blank d l) b in
    elim (cases_lt k m) [
      | inl less ↦ before_trans (get_or xs k d) (get_or xs m d) q (all_before (λ r. r) xs o k m d less l) here
      | inr same ↦ (let e : m ≡ k = omega arith in subst (λ i. IsBefore (get_or xs i d) q) e here)
    ]

pub not_before_too : (xs : List Range) (m : ℕ) (q : Range) → m < length xs → (IsBefore (get_or xs m blank) q → ⊥)
    → (d : Range) → m < length xs → IsBefore (get_or xs m d) q → ⊥
not_before_too xs m q l not_here d h b = not_here (subst (λ x. IsBefore x q) (get_or_default xs m d blank l) b)

ended : (r : Range) (t i j : ℕ) → IsBefore r (one_bit t i) → i ≤ j → HasBit r t j → ⊥
ended r t i j b l h = grind arith

later : (r q : Range) (t j : ℕ) → IsBefore r q → r.signal ≡ t → j < r.low → HasBit q t j → ⊥
later r q t j b e l h = grind arith

elsewhere : (r q : Range) (t j : ℕ) → IsBefore r q → t < r.signal → HasBit q t j → ⊥
elsewhere r q t j b e h = grind arith

not_yet : (r : Range) (t j : ℕ) → j < r.low → HasBit r t j → ⊥
not_yet r t j l h = omega (arith, h.1)

other_signal : (r : Range) (t j : ℕ) → t < r.signal → HasBit r t j → ⊥
other_signal r t j l h = omega (arith, h.0)

-- what is known of all ranges, from those before one, that one, and those after it
by_place : (xs : List Range) (n : ℕ) (P : Range → Type 0) → ((k : ℕ) (d : Range) → k < n → P (get_or xs k d))
    → ((d : Range) → P (get_or xs n d)) → ((k : ℕ) (d : Range) → n < k → k < length xs → P (get_or xs k d))
    → (k : ℕ) (d : Range) → k < length xs → P (get_or xs k d)
by_place xs n P before here after k d l = elim (cases_order k n) [
  | inl e ↦ subst (λ i. P (get_or xs i d)) (sym e) (here d)
  | inr r ↦ elim r [ inl less ↦ before k d less | inr more ↦ after k d more l ]
]

-- the first range that doesn't end before the bit has it
pub holder : (xs : List Range) (t i n : ℕ) (r : Range) → IsFirstNotBefore xs t i n → n < length xs
    → ((d : Range) → get_or xs n d ≡ r) → r.signal ≡ t → r.low ≤ i → (d : Range) → HasBit (get_or xs n d) t i
holder xs t i n r f l is e low d =
    subst (λ x. HasBit x t i) (sym (is d)) (elim (cases_lt i (r.low + r.width)) [
      | inl to ↦ (e, low, to)
      | inr past ↦ absurd (f.after d l (subst (λ x. IsBefore x (one_bit t i)) (sym (is d)) (inr (e, past))))
    ])

-- it begins later in the same signal
pub free_next : (xs : List Range) → AreInOrder (λ r. r) xs → (t i n : ℕ) (r : Range) → IsFirstNotBefore xs t i n
    → n < length xs → ((d : Range) → get_or xs n d ≡ r) → r.signal ≡ t → (k j : ℕ) (d : Range) → k < length xs → i ≤ j
    → j < r.low → HasBit (get_or xs k d) t j → ⊥
free_next xs o t i n r f l is e k j d w from to =
    by_place xs n (λ x. HasBit x t j → ⊥)
    (λ m c less h. ended (get_or xs m c) t i j (f.before m c less) from h)
    (λ c h. not_yet r t j to (subst (λ x. HasBit x t j) (is c) h))
    (λ m c more v h. later r (get_or xs m c) t j
    (subst (λ x. IsBefore x (get_or xs m c)) (is c) (all_before (λ x. x) xs o n m c more v)) e to h) k d w

-- it lies in a later signal
pub free_other : (xs : List Range) → AreInOrder (λ r. r) xs → (t i n : ℕ) (r : Range) → IsFirstNotBefore xs t i n
    → n < length xs → ((d : Range) → get_or xs n d ≡ r) → (r.signal ≡ t → ⊥) → (k j : ℕ) (d : Range) → k < length xs
    → i ≤ j → HasBit (get_or xs k d) t j → ⊥
free_other xs o t i n r f l is e k j d w from =
    let beyond : t < r.signal = elim (cases_order t r.signal) [
      | inl same ↦ absurd (e (sym same))
      | inr q ↦ elim q [
        | inl less ↦ less
        | inr more ↦ absurd (f.after r l (subst (λ x. IsBefore x (one_bit t i)) (sym (is r)) (inl more)))
      ]
    ] in
    by_place xs n (λ x. HasBit x t j → ⊥)
    (λ m c less h. ended (get_or xs m c) t i j (f.before m c less) from h)
    (λ c h. other_signal r t j beyond (subst (λ x. HasBit x t j) (is c) h))
    (λ m c more v h. elsewhere r (get_or xs m c) t j
    (subst (λ x. IsBefore x (get_or xs m c)) (is c) (all_before (λ x. x) xs o n m c more v)) beyond h) k d w

-- all end before the bit
pub free_none : (xs : List Range) (t i n : ℕ) → IsFirstNotBefore xs t i n → length xs ≤ n → (k j : ℕ) (d : Range)
    → k < length xs → i ≤ j → HasBit (get_or xs k d) t j → ⊥
free_none xs t i n f l k j d w from h = ended (get_or xs k d) t i j (f.before k d (omega arith)) from h

-- ---- ranges of parts

pub map_in_order : {X : Type 0} (range : X → Range) (xs : List X) (e : X) → AreInOrder range xs
    → AreInOrder (λ r. r) (map range xs)
map_in_order range xs e o k d l =
    let there : suc k < length xs = omega (arith, l, length-map xs range) in
    subst (λ x. IsBefore x (get_or (map range xs) (suc k) d)) (sym (get_or-map range xs k e d (omega arith)))
    (subst (λ x. IsBefore (range (get_or xs k e)) x) (sym (get_or-map range xs (suc k) e d there)) (o k e there))
