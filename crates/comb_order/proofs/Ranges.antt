-- Driven parts in order: those before a range share no bit with it, nor do those after it.
use Rattle.std.proofs.Common.{◌≡◌, ℕ, zero, suc, ◌+◌, ◌-◌, ◌<◌, ◌≤◌, inl, inr, List, length, get_or, refl, sym, ap, ◌∙◌, subst, arith, true, false, ◌⊎◌}
use Rattle.std.specs.Prelude.{Option, None, Some, slice_get, IsSomeAnd}
use Rattle.std.proofs.lemmas.Bool.{cases_lt}
use Rattle.std.proofs.lemmas.Bool.Decides.{nat_tests}
use Rattle.std.proofs.lemmas.List.{get_or_default}
use Rattle.std.proofs.lemmas.Option.{slice_get_within, get_or_from_slice_get, slice_get-get_or}
use Rattle.netlist.specs.Fits.{IsBefore, DrivenInOrder}
use Rattle.netlist.specs.Graph.{overlap}
use Rattle.netlist.specs.declared.design.Range.{Range}
use Rattle.netlist.specs.declared.design.DrivenPart.{DrivenPart}
use Rattle.comb_order.specs.First.{IsFirst, Shares, first_of}
use Rattle.comb_order.proofs.First.{first_of_both, first_same, first_alone}

pub before_trans : (a b c : Range) → IsBefore a b → IsBefore b c → IsBefore a c
before_trans a b c p q = grind arith

-- neighbours in order are all in order: n parts stand between the two
between : (xs : List DrivenPart) → DrivenInOrder xs → (i n j : ℕ) (d : DrivenPart) → j ≡ suc (i + n) → j < length xs
    → IsBefore (get_or xs i d).range (get_or xs j d).range
between xs h i zero j d e l =
    let next : suc i ≡ j = omega arith in
    subst (λ k. IsBefore (get_or xs i d).range (get_or xs k d).range) next (h i d (omega arith))
between xs h i (suc n) j d e l =
    let m : ℕ = suc (i + n) in
    let next : suc m ≡ j = omega arith in
    before_trans (get_or xs i d).range (get_or xs m d).range (get_or xs j d).range
    (between xs h i n m d refl (omega arith))
    (subst (λ k. IsBefore (get_or xs m d).range (get_or xs k d).range) next (h m d (omega arith)))

pub all_before : (xs : List DrivenPart) → DrivenInOrder xs → (i j : ℕ) (d : DrivenPart) → i < j → j < length xs
    → IsBefore (get_or xs i d).range (get_or xs j d).range
all_before xs h i j d l w = between xs h i (j - suc i) j d (omega arith) w

abbrev pub blank : DrivenPart
blank = record { range = record { signal = 0; low = 0; width = 0 }; node = 0 }

-- a part before which others stand is before a range, and so are they
pub before_too : (xs : List DrivenPart) → DrivenInOrder xs → (m : ℕ) (r : Range) → m < length xs
    → IsBefore (get_or xs m blank).range r → (k : ℕ) (d : DrivenPart) → k < m + 1 → IsBefore (get_or xs k d).range r
before_too xs h m r w b k d l =
    let here : IsBefore (get_or xs m d).range r =
    subst (λ (x : DrivenPart). IsBefore x.range r) (get_or_default xs m blank d w) b in
    elim (cases_lt k m) [
      | inl less ↦ before_trans (get_or xs k d).range (get_or xs m d).range r (all_before xs h k m d less w) here
      | inr same ↦ (let e : m ≡ k = omega arith in subst (λ i. IsBefore (get_or xs i d).range r) e here)
    ]

-- a range before a part is before those after it
pub after_too : (xs : List DrivenPart) → DrivenInOrder xs → (m : ℕ) (r : Range) → m < length xs
    → IsBefore r (get_or xs m blank).range → (k : ℕ) (d : DrivenPart) → m ≤ k → k < length xs
    → IsBefore r (get_or xs k d).range
after_too xs h m r v b k d l w =
    let here : IsBefore r (get_or xs m d).range =
    subst (λ (x : DrivenPart). IsBefore r x.range) (get_or_default xs m blank d v) b in
    elim (cases_lt m k) [
      | inl less ↦ before_trans r (get_or xs m d).range (get_or xs k d).range here (all_before xs h m k d less w)
      | inr same ↦ (let e : m ≡ k = omega arith in subst (λ i. IsBefore r (get_or xs i d).range) e here)
    ]

apart_before : (r q : Range) → IsBefore q r → overlap r q ≡ true → ⊥
apart_before r q b o = grind (arith, nat_tests)

apart_after : (r q : Range) → IsBefore r q → overlap r q ≡ true → ⊥
apart_after r q b o = grind (arith, nat_tests)

-- the part that is there shares the bits that it shares
shares_at : (xs : List DrivenPart) (r : Range) (o : Option DrivenPart) → IsSomeAnd o (λ y. overlap r y.range ≡ true)
    → (y : DrivenPart) × (o ≡ Some y) × (overlap r y.range ≡ true)
shares_at xs r None h = absurd h
shares_at xs r (Some y) h = (y, refl, h)

pub none_before : (xs : List DrivenPart) (r : Range) (q : ℕ)
    → ((d : DrivenPart) → IsBefore (get_or xs q d).range r) → Shares xs r q → ⊥
none_before xs r q b h =
    let y = shares_at xs r (slice_get xs q) h in
    apart_before r y.0.range (subst (λ (z : DrivenPart). IsBefore z.range r) (get_or_from_slice_get xs q y.0 y.0 y.1)
    (b y.0)) y.2

pub none_after : (xs : List DrivenPart) (r : Range) (q : ℕ)
    → ((d : DrivenPart) → q < length xs → IsBefore r (get_or xs q d).range) → Shares xs r q → ⊥
none_after xs r q b h =
    let y = shares_at xs r (slice_get xs q) h in
    apart_after r y.0.range (subst (λ (z : DrivenPart). IsBefore r z.range) (get_or_from_slice_get xs q y.0 y.0 y.1)
    (b y.0 (slice_get_within xs q y.0 y.1))) y.2

pub shares_within : (xs : List DrivenPart) (r : Range) (q : ℕ) → Shares xs r q → q < length xs
shares_within xs r q h = let y = shares_at xs r (slice_get xs q) h in slice_get_within xs q y.0 y.1

shares_overlap : (xs : List DrivenPart) (r : Range) (q : ℕ) → q < length xs
    → overlap r (get_or xs q blank).range ≡ true → Shares xs r q
shares_overlap xs r q l h =
    subst (λ (o : Option DrivenPart). IsSomeAnd o (λ z. overlap r z.range ≡ true)) (sym (slice_get-get_or xs q blank l)) h

overlap_shares : (xs : List DrivenPart) (r : Range) (q : ℕ) → Shares xs r q
    → overlap r (get_or xs q blank).range ≡ true
overlap_shares xs r q h =
    let y = shares_at xs r (slice_get xs q) h in
    ap (λ (z : DrivenPart). overlap r z.range) (get_or_from_slice_get xs q y.0 blank y.1) ∙ y.2

-- ---- the first so far

abbrev pub SharesBelow : List DrivenPart → Range → ℕ → ℕ → Type 0
SharesBelow xs r n q = Shares xs r q × (q < n)

pub one_more_shared : (xs : List DrivenPart) (ranks : List ℕ) (r : Range) (n : ℕ) (found : Option ℕ) → n < length xs
    → overlap r (get_or xs n blank).range ≡ true → IsFirst ranks (SharesBelow xs r n) found
    → IsFirst ranks (SharesBelow xs r (n + 1)) (first_of ranks found (Some n))
one_more_shared xs ranks r n found l o h =
    first_same ranks (λ q. SharesBelow xs r n q ⊎ (q ≡ n)) (SharesBelow xs r (n + 1)) (first_of ranks found (Some n))
    (λ q e. elim e [
      | inl p ↦ (p.0, omega (arith, p.1))
      | inr same ↦ (subst (λ k. Shares xs r k) (sym same) (shares_overlap xs r n l o), omega (arith, same))
    ])
    (λ q p. elim (cases_lt q n) [
      | inl less ↦ inl (p.0, less)
      | inr same ↦ inr (omega (arith, p.1))
    ])
    (first_of_both ranks (SharesBelow xs r n) (λ q. q ≡ n) found (Some n) h (first_alone ranks n))

pub none_more_shared : (xs : List DrivenPart) (ranks : List ℕ) (r : Range) (n : ℕ) (found : Option ℕ)
    → overlap r (get_or xs n blank).range ≡ false → IsFirst ranks (SharesBelow xs r n) found
    → IsFirst ranks (SharesBelow xs r (n + 1)) found
none_more_shared xs ranks r n found o h =
    first_same ranks (SharesBelow xs r n) (SharesBelow xs r (n + 1)) found (λ q p. (p.0, omega (arith, p.1)))
    (λ q p. elim (cases_lt q n) [
      | inl less ↦ (p.0, less)
      | inr same ↦ (let e : q ≡ n = omega (arith, p.1) in
          let yes : overlap r (get_or xs n blank).range ≡ true =
          ap (λ k. overlap r (get_or xs k blank).range) (sym e) ∙ overlap_shares xs r q p.0 in
          let no : true ≡ false = sym yes ∙ o in absurd cc)
    ]) h

-- the first of all, where none from here on shares a bit
pub all_shared : (xs : List DrivenPart) (ranks : List ℕ) (r : Range) (n : ℕ) (found : Option ℕ)
    → ((q : ℕ) → n ≤ q → Shares xs r q → ⊥) → IsFirst ranks (SharesBelow xs r n) found
    → IsFirst ranks (Shares xs r) found
all_shared xs ranks r n found none h =
    first_same ranks (SharesBelow xs r n) (Shares xs r) found (λ q p. p.0) (λ q p. elim (cases_lt q n) [
      | inl less ↦ (p, less)
      | inr far ↦ absurd (none q far p)
    ]) h
