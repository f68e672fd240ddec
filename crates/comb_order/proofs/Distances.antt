-- Ranks that are supported and settled are distances.
use Rattle.std.proofs.Common.{◌≡◌, ◌≢◌, ℕ, zero, suc, ◌+◌, ◌^◌, ◌<◌, ◌≤◌, ◌⊎◌, inl, inr, List, [], ◌∷◌, length, refl, sym, ap, ◌∙◌, subst, arith, get_or-set_other, get_or-set_same, length-set}
use Rattle.std.specs.Prelude.{Option, None, Some, slice_index, slice_index_or, slice_set, slice_get, IsSomeAnd, sum, IsTrue}
use Rattle.std.proofs.lemmas.Bool.{cases_lt, cases_eq}
use Rattle.std.proofs.lemmas.Option.{slice_get_within}
use Rattle.std.proofs.lemmas.List.Sums.{sum_by-set}
use Rattle.netlist.specs.Design.{Flat}
use Rattle.netlist.specs.Graph.{ReadsPart, ReadsIn, reads}
use Rattle.netlist.specs.declared.design.DrivenPart.{DrivenPart}
use Rattle.comb_order.specs.First.{ComesFirst, IsFirst, AreFirst}
use Rattle.comb_order.specs.Distance.{AreDistances, AreSupported, AreSettled, HasSupport, one_read_more}
use Rattle.comb_order.specs.declared.distance.TheConstants.{NEVER}

-- ---- a part that is read is there

there_read : (f : Flat) (q : ℕ) (a : DrivenPart) (y : Option DrivenPart) → slice_get f.driven q ≡ y
    → IsSomeAnd y (λ z. IsTrue (reads f a.node z)) → q < length f.driven
there_read f q a None e h = absurd h
there_read f q a (Some y) e h = slice_get_within f.driven q y e

there_first : (f : Flat) (q : ℕ) (x : Option DrivenPart)
    → IsSomeAnd x (λ a. IsSomeAnd (slice_get f.driven q) (λ y. IsTrue (reads f a.node y))) → q < length f.driven
there_first f q None h = absurd h
there_first f q (Some a) h = there_read f q a (slice_get f.driven q) refl h

pub read_there : (f : Flat) (p q : ℕ) → ReadsPart f p q → q < length f.driven
read_there f p q h = there_first f q (slice_get f.driven p) h

reader_first : (f : Flat) (p q : ℕ) (x : Option DrivenPart) → slice_get f.driven p ≡ x
    → IsSomeAnd x (λ a. IsSomeAnd (slice_get f.driven q) (λ y. IsTrue (reads f a.node y))) → p < length f.driven
reader_first f p q None e h = absurd h
reader_first f p q (Some a) e h = slice_get_within f.driven p a e

pub reader_there : (f : Flat) (p q : ℕ) → ReadsPart f p q → p < length f.driven
reader_there f p q h = reader_first f p q (slice_get f.driven p) refl h

-- ---- all numbers up to one of a list are fewer than its elements

abbrev pub Has : ℕ → List ℕ → Type 0
Has v [] = ⊥
Has v (x ∷ xs) = (v ≡ x) ⊎ Has v xs

-- a list without one element v
record Without (v : ℕ) (xs : List ℕ) : Type 0 where
  rest : List ℕ
  count : length xs ≡ suc (length rest)
  keeps : (u : ℕ) → u ≢ v → Has u xs → Has u rest

without : (v : ℕ) (xs : List ℕ) → Has v xs → Without v xs
without v [] h = absurd h
without v (x ∷ xs) h = elim h [
  | inl e ↦ record {
    rest = xs;
    count = refl;
    keeps = λ u other g. elim g [ inl own ↦ absurd (other (own ∙ sym e)) | inr later ↦ later ];
  }
  | inr g ↦ (let w = without v xs g in record {
    rest = x ∷ w.rest;
    count = ap suc w.count;
    keeps = λ u other k. elim k [ inl own ↦ inl own | inr later ↦ inr (w.keeps u other later) ];
  })
]

fewer : (k : ℕ) (xs : List ℕ) → ((v : ℕ) → v ≤ k → Has v xs) → k < length xs
fewer zero xs h = (let w = without 0 xs (h 0 (omega arith)) in omega (arith, w.count))
fewer (suc k) xs h =
    let w = without (suc k) xs (h (suc k) (omega arith)) in
    let less : k < length w.rest = fewer k w.rest (λ v l. w.keeps v (omega (arith, l)) (h v (omega (arith, l)))) in
    omega (arith, less, w.count)

pub has_at : (xs : List ℕ) (k : ℕ) → k < length xs → Has (slice_index xs k) xs
has_at [] k l = absurd (omega arith)
has_at (x ∷ xs) zero l = inl refl
has_at (x ∷ xs) (suc k) l = inr (has_at xs k (omega arith))

-- ---- supported and settled

module _ (f : Flat) (to : ℕ) (ranks : List ℕ) (s : AreSupported f to ranks) (t : AreSettled f to ranks) where
  -- a part next to one of a rank has the rank below
  below : (k p : ℕ) → p < length f.driven → slice_index ranks p ≡ suc k → suc k < NEVER
      → (q : ℕ) × ReadsPart f p q × (slice_index ranks q ≡ k)
  below k p l e m = elim (cases_eq p to) [
    | inl same ↦ (let no : slice_index ranks p ≡ 0 = ap (slice_index ranks) same ∙ s.start in absurd (omega (arith, no, e)))
    | inr other ↦ (let q = s.each p l other (omega (arith, e, m)) in
        let up : slice_index ranks p ≤ slice_index ranks q.0 + 1 = t p q.0 l other q.1 in
        (q.0, q.1, omega (arith, q.2, up, e)))
  ]

  walk : (k p : ℕ) → p < length f.driven → slice_index ranks p ≡ k → k < NEVER → ReadsIn f k p to
  walk zero p l e m = elim (cases_eq p to) [
    | inl same ↦ same
    | inr other ↦ (let q = s.each p l other (omega (arith, e, m)) in absurd (omega (arith, q.2, e)))
  ]
  walk (suc k) p l e m =
      let q = below k p l e m in (q.0, q.1, walk k q.0 (read_there f p q.0 q.1) q.2 (omega (arith, m)))

  occurs : (k p : ℕ) → p < length f.driven → slice_index ranks p ≡ k → k < NEVER → (v : ℕ) → v ≤ k → Has v ranks
  occurs zero p l e m v b =
      let is : slice_index ranks p ≡ v = omega (arith, e, b) in
      subst (λ x. Has x ranks) is (has_at ranks p (omega (arith, l, s.count)))
  occurs (suc k) p l e m v b = elim (cases_lt k v) [
    | inl last ↦ (let is : slice_index ranks p ≡ v = omega (arith, e, last, b) in
        subst (λ x. Has x ranks) is (has_at ranks p (omega (arith, l, s.count))))
    | inr lower ↦ (let q = below k p l e m in
        occurs k q.0 (read_there f p q.0 q.1) q.2 (omega (arith, m)) v lower)
  ]

  small : (p : ℕ) → p < length f.driven → slice_index ranks p < NEVER → slice_index ranks p < length f.driven
  small p l m =
      let few : slice_index ranks p < length ranks =
      fewer (slice_index ranks p) ranks (occurs (slice_index ranks p) p l refl m) in
      omega (arith, s.count, few)

  fewest : (n p : ℕ) → p < length f.driven → ReadsIn f n p to → slice_index ranks p ≤ n
  fewest zero p l h = (let e : slice_index ranks p ≡ 0 = ap (slice_index ranks) h ∙ s.start in omega (arith, e))
  fewest (suc n) p l h = elim (cases_eq p to) [
    | inl same ↦ (let e : slice_index ranks p ≡ 0 = ap (slice_index ranks) same ∙ s.start in omega (arith, e))
    | inr other ↦ (let more : slice_index ranks p ≤ slice_index ranks h.0 + 1 = t p h.0 l other h.1 in
        let less : slice_index ranks h.0 ≤ n = fewest n h.0 (read_there f p h.0 h.1) h.2 in omega (arith, more, less))
  ]

  ever : length f.driven < 2 ^ 32 → (n p : ℕ) → p < length f.driven → ReadsIn f n p to
      → slice_index ranks p < NEVER
  ever few zero p l h = (let e : slice_index ranks p ≡ 0 = ap (slice_index ranks) h ∙ s.start in omega (arith, e))
  ever few (suc n) p l h = elim (cases_eq p to) [
    | inl same ↦ (let e : slice_index ranks p ≡ 0 = ap (slice_index ranks) same ∙ s.start in omega (arith, e))
    | inr other ↦ (let more : slice_index ranks p ≤ slice_index ranks h.0 + 1 = t p h.0 l other h.1 in
        let there = read_there f p h.0 h.1 in
        let low : slice_index ranks h.0 < length f.driven = small h.0 there (ever few n h.0 there h.2) in
        omega (arith, more, low, few))
  ]

pub are_distances : (f : Flat) (to : ℕ) (ranks : List ℕ) → length f.driven < 2 ^ 32 → AreSupported f to ranks
    → AreSettled f to ranks → AreDistances f to ranks
are_distances f to ranks few s t = record {
  count = s.count;
  back = λ p l m. walk f to ranks s t (slice_index ranks p) p l refl m;
  fewest = λ p n l h. fewest f to ranks s t n p l h;
  ever = λ p n l h. ever f to ranks s t few n p l h;
}

-- ---- one pass

-- a part takes a lower rank that is supported
lower_supported : (f : Flat) (to : ℕ) (ranks : List ℕ) (p new : ℕ) → p < length f.driven → p ≢ to
    → new < slice_index ranks p → (new < NEVER → (q : ℕ) × ReadsPart f p q × (slice_index ranks q < new))
    → AreSupported f to ranks → AreSupported f to (slice_set ranks p new)
lower_supported f to ranks p new l other less way s =
    let after : List ℕ = slice_set ranks p new in
    let here : slice_index after p ≡ new = get_or-set_same ranks p new 0 (omega (arith, l, s.count)) in
    let no_more : (x : ℕ) → slice_index after x ≤ slice_index ranks x = λ x. elim (cases_eq x p) [
      | inl same ↦ (let a : slice_index after x ≡ new = ap (slice_index after) same ∙ here in
          let b : slice_index ranks x ≡ slice_index ranks p = ap (slice_index ranks) same in omega (arith, a, b, less))
      | inr apart ↦ (let a : slice_index after x ≡ slice_index ranks x = get_or-set_other ranks p x new 0 apart in
          omega (arith, a))
    ] in
    record {
      count = length-set ranks p new ∙ s.count;
      start = get_or-set_other ranks p to new 0 (λ e. other (sym e)) ∙ s.start;
      each = λ x there apart low. elim (cases_eq x p) [
        | inl same ↦ (let a : slice_index after x ≡ new = ap (slice_index after) same ∙ here in
            let q = way (omega (arith, a, low)) in
            let b = no_more q.0 in
            (q.0, subst (λ k. ReadsPart f k q.0) (sym same) q.1, omega (arith, a, b, q.2)))
        | inr still ↦ (let a : slice_index after x ≡ slice_index ranks x = get_or-set_other ranks p x new 0 still in
            let y = s.each x there apart (omega (arith, a, low)) in
            let b = no_more y.0 in (y.0, y.1, omega (arith, a, b, y.2)))
      ];
    }

-- and that of a way through what it reads first is
pub still_supported : (f : Flat) (to : ℕ) (ranks base : List ℕ) (p through : ℕ) (q : Option ℕ) → p < length f.driven
    → p ≢ to → through ≡ one_read_more ranks q → through < slice_index ranks p → IsFirst base (ReadsPart f p) q
    → AreSupported f to ranks → AreSupported f to (slice_set ranks p through)
still_supported f to ranks base p through None l other is less h s =
    lower_supported f to ranks p through l other less (λ low. absurd (omega (arith, is, low))) s
still_supported f to ranks base p through (Some q) l other is less h s =
    lower_supported f to ranks p through l other less (λ low. (q, h.0, omega (arith, is, low))) s

pub sum_less : (ranks : List ℕ) (p n : ℕ) → p < length ranks → n < slice_index ranks p
    → sum (slice_set ranks p n) < sum ranks
sum_less ranks p n l less = (let e = sum_by-set (λ x. x) ranks p n 0 l in omega (arith, e, less))

-- a part that found none through what it reads first is settled
pub settled_part : (f : Flat) (ranks : List ℕ) (p q : ℕ) (first : Option ℕ)
    → slice_index ranks p ≤ one_read_more ranks first → IsFirst ranks (ReadsPart f p) first → ReadsPart f p q
    → slice_index ranks p ≤ slice_index ranks q + 1
settled_part f ranks p q None none h reads = absurd (h q reads)
settled_part f ranks p q (Some b) none h reads =
    let order : ComesFirst ranks b q = h.1 q reads in grind (arith, order, none)

-- one more part that is settled, where it is the first one or found no shorter way
pub settled_so_far : (ranks : List ℕ) (firsts : List (Option ℕ)) (to i : ℕ)
    → ((p : ℕ) → p < i → p ≢ to → slice_index ranks p ≤ one_read_more ranks (slice_index_or firsts p None))
    → (i ≢ to → slice_index ranks i ≤ one_read_more ranks (slice_index_or firsts i None))
    → (p : ℕ) → p < i + 1 → p ≢ to → slice_index ranks p ≤ one_read_more ranks (slice_index_or firsts p None)
settled_so_far ranks firsts to i old new p l other = elim (cases_lt p i) [
  | inl less ↦ old p less other
  | inr last ↦ (let e : i ≡ p = omega arith in
      subst (λ k. slice_index ranks k ≤ one_read_more ranks (slice_index_or firsts k None)) e
      (new (λ same. other (sym e ∙ same))))
]

-- ---- ranks that were judged

supporter : (f : Flat) (ranks : List ℕ) (p : ℕ) (first : Option ℕ) → IsFirst ranks (ReadsPart f p) first
    → IsSomeAnd first (λ q. slice_index ranks q < slice_index ranks p)
    → (q : ℕ) × ReadsPart f p q × (slice_index ranks q < slice_index ranks p)
supporter f ranks p None h s = absurd s
supporter f ranks p (Some q) h s = (q, h.0, s)

pub all_supported : (f : Flat) (to : ℕ) (ranks : List ℕ) (firsts : List (Option ℕ)) → to < length f.driven
    → length ranks ≡ length f.driven → AreFirst f ranks firsts
    → ((p : ℕ) → p < length f.driven → HasSupport to ranks (slice_index_or firsts p None) p)
    → AreSupported f to ranks
all_supported f to ranks firsts there count first each = record {
  count = count;
  start = (each to there).start refl;
  each = λ p l other low. supporter f ranks p (slice_index_or firsts p None) (first.each p l)
      ((each p l).each other low);
}
