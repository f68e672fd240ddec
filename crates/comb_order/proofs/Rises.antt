-- Labels that count the parts to which a part doesn't come rise from each part to those that it reads.
use Rattle.std.proofs.Common.{◌≡◌, ℕ, suc, ◌+◌, ◌-◌, ◌<◌, ◌⊎◌, inl, inr, List, length, get_or, sym, ap, ◌∙◌, subst, arith}
use Rattle.std.specs.Prelude.{Option, None, Some, slice_index, slice_index_or}
use Rattle.std.proofs.lemmas.Bool.{cases_lt, cases_eq}
use Rattle.std.proofs.lemmas.List.{get_or_past, get_or_read}
use Rattle.netlist.specs.Design.{Flat}
use Rattle.netlist.specs.Graph.{ReadsPart, ReadsIn}
use Rattle.netlist.specs.Order.{IsLoop, IsNearest}
use Rattle.comb_order.specs.First.{IsFirst, AreFirst}
use Rattle.comb_order.specs.Distance.{AreDistances, ComesBack}
use Rattle.comb_order.specs.Labels.{AreRising, RiseBelow, Raised}
use Rattle.comb_order.specs.Round.{IsRound, IsLeast}
use Rattle.comb_order.specs.declared.distance.TheConstants.{NEVER}
use Rattle.comb_order.proofs.Distances.{read_there, reader_there}
use Rattle.comb_order.proofs.Rounds.{goes_first}

pub back_cases : (ranks : List ℕ) (q : Option ℕ) → ComesBack ranks q ⊎ (ComesBack ranks q → ⊥)
back_cases ranks None = inr (λ h. h)
back_cases ranks (Some q) = elim (cases_lt (slice_index ranks q) NEVER) [
  | inl low ↦ inl low
  | inr far ↦ inr (λ h. omega (arith, h, far))
]

-- a part comes back exactly where there is a way of one read or more
way_from : (f : Flat) (to : ℕ) (ranks : List ℕ) (p : ℕ) (q : Option ℕ) → AreDistances f to ranks
    → IsFirst ranks (ReadsPart f p) q → ComesBack ranks q → (n : ℕ) × ReadsIn f (suc n) p to
way_from f to ranks p None d h back = absurd back
way_from f to ranks p (Some q) d h back =
    (slice_index ranks q, (q, h.0, d.back q (read_there f p q h.0) back))

back_from : (f : Flat) (to : ℕ) (ranks : List ℕ) (firsts : List (Option ℕ)) (p n : ℕ) → AreDistances f to ranks
    → AreFirst f ranks firsts → ReadsIn f (suc n) p to → ComesBack ranks (slice_index_or firsts p None)
back_from f to ranks firsts p n d first way =
    goes_first f to ranks p n (slice_index_or firsts p None) d (first.each p (reader_there f p way.0 way.1)) way

-- what reads a part that comes back comes back too
through : (f : Flat) (to : ℕ) (ranks : List ℕ) (firsts : List (Option ℕ)) (p q : ℕ) → AreDistances f to ranks
    → AreFirst f ranks firsts → ReadsPart f p q → ComesBack ranks (slice_index_or firsts q None)
    → ComesBack ranks (slice_index_or firsts p None)
through f to ranks firsts p q d first reads back =
    let way = way_from f to ranks q (slice_index_or firsts q None) d (first.each q (read_there f p q reads)) back in
    back_from f to ranks firsts p (suc way.0) d first (q, reads, way.1)

pub rise_more : (f : Flat) (n : ℕ) (ranks : List ℕ) (firsts : List (Option ℕ)) (old new : List ℕ)
    → AreDistances f n ranks → AreFirst f ranks firsts → (ComesBack ranks (slice_index_or firsts n None) → ⊥)
    → ((p : ℕ) → p < length old → Raised ranks (slice_index_or firsts p None) (slice_index old p) (slice_index new p))
    → length new ≡ length old → RiseBelow f n old → RiseBelow f (n + 1) new
rise_more f n ranks firsts old new d first alone raised long r =
    let step : (p : ℕ) → p < length f.driven
    → Raised ranks (slice_index_or firsts p None) (slice_index old p) (slice_index new p) =
    λ p l. raised p (omega (arith, l, r.count)) in
    let pair : (p q : ℕ) → ReadsPart f p q → slice_index old p < slice_index old q
    → slice_index new p < slice_index new q = λ p q reads less.
    (let a = step p (reader_there f p q reads) in
    let b = step q (read_there f p q reads) in
    elim (back_cases ranks (slice_index_or firsts p None)) [
      | inl back ↦ (let x = a.0 back in elim (back_cases ranks (slice_index_or firsts q None)) [
        | inl too ↦ (let y = b.0 too in omega (arith, x, y, less))
        | inr not_too ↦ (let y = b.1 not_too in omega (arith, x, y, less))
      ])
      | inr never ↦ (let x = a.1 never in
          let y = b.1 (λ too. never (through f n ranks firsts p q d first reads too)) in omega (arith, x, y, less))
    ]) in
    record {
      count = long ∙ r.count;
      few = λ p. elim (cases_lt p (length old)) [
        | inl there ↦ (let a = raised p there in let few = r.few p in
            elim (back_cases ranks (slice_index_or firsts p None)) [
              | inl back ↦ (let x = a.0 back in omega (arith, x, few))
              | inr never ↦ (let x = a.1 never in omega (arith, x, few))
            ])
        | inr past ↦ (let x : slice_index new p ≡ 0 = get_or_past new p 0 (omega (arith, past, long)) in
            omega (arith, x))
      ];
      each = λ p q reads.
          (let a = step p (reader_there f p q reads) in
          let b = step q (read_there f p q reads) in
          let no_more = r.each p q reads in
          elim (back_cases ranks (slice_index_or firsts p None)) [
            | inl back ↦ (let x = a.0 back in elim (back_cases ranks (slice_index_or firsts q None)) [
              | inl too ↦ (let y = b.0 too in omega (arith, x, y, no_more))
              | inr not_too ↦ (let y = b.1 not_too in omega (arith, x, y, no_more))
            ])
            | inr never ↦ (let x = a.1 never in
                let y = b.1 (λ too. never (through f n ranks firsts p q d first reads too)) in
                omega (arith, x, y, no_more))
          ]);
      higher = λ p q l reads. elim (cases_lt q n) [
        | inl less ↦ pair p q reads (r.higher p q less reads)
        | inr last ↦
            let e : q ≡ n = omega (arith, l, last) in
            let x = (step p (reader_there f p q reads)).0 (back_from f n ranks firsts p 0 d first (q, reads, e)) in
            let y = (step q (read_there f p q reads)).1
            (λ back. alone (subst (λ k. ComesBack ranks (slice_index_or firsts k None)) e back)) in
            let no_more = r.each p q reads in omega (arith, x, y, no_more)
      ];
    }

pub least_more : (f : Flat) (n : ℕ) (ranks : List ℕ) (firsts : List (Option ℕ)) → AreDistances f n ranks
    → AreFirst f ranks firsts → (ComesBack ranks (slice_index_or firsts n None) → ⊥) → IsLeast f n → IsLeast f (n + 1)
least_more f n ranks firsts d first alone least p m way = elim (cases_eq n p) [
  | inl same ↦ absurd (alone (back_from f n ranks firsts n m d first
      (subst (λ k. ReadsIn f (suc m) k n) (sym same) (subst (λ k. ReadsIn f (suc m) p k) (sym same) way))))
  | inr other ↦ (let a = least p m way in omega (arith, a, other))
]

pub loop_is : (f : Flat) (start : ℕ) (parts : List ℕ) → IsRound f start parts → IsLeast f start → IsLoop f parts
loop_is f start parts r least = record {
  some = r.some;
  first = λ p n way. (let a = least p n way in omega (arith, a, r.first));
  next = λ i l. subst (λ s. IsNearest f (slice_index parts i) (slice_index_or parts (suc i) s) s (length parts - suc i))
      (sym r.first) (r.next i l);
}

pub rising : (f : Flat) (labels : List ℕ) → RiseBelow f (length f.driven) labels → AreRising f labels
rising f labels r = record {
  count = r.count;
  each = λ p q reads. r.higher p q (read_there f p q reads) reads;
}

-- ---- as the code reads them

pub comes_as : (ranks seen : List ℕ) (firsts : List (Option ℕ)) (n : ℕ) (first : Option ℕ) → seen ≡ ranks
    → n < length firsts → first ≡ get_or firsts n first → ComesBack ranks (slice_index_or firsts n None)
    → ComesBack seen first
comes_as ranks seen firsts n first same l is back =
    subst (λ r. ComesBack r first) (sym same)
    (subst (λ x. ComesBack ranks x) (sym (get_or_read firsts n first l is None)) back)

pub comes_from : (ranks seen : List ℕ) (firsts : List (Option ℕ)) (n : ℕ) (first : Option ℕ) → seen ≡ ranks
    → n < length firsts → first ≡ get_or firsts n first → ComesBack seen first
    → ComesBack ranks (slice_index_or firsts n None)
comes_from ranks seen firsts n first same l is back =
    subst (λ x. ComesBack ranks x) (get_or_read firsts n first l is None)
    (subst (λ r. ComesBack r first) same back)

pub rise_more_of : (f : Flat) (n : ℕ) (ranks seen : List ℕ) (firsts known : List (Option ℕ)) (old before new : List ℕ)
    → AreDistances f n ranks → AreFirst f ranks firsts → (ComesBack ranks (slice_index_or firsts n None) → ⊥)
    → seen ≡ ranks → known ≡ firsts → before ≡ old
    → ((p : ℕ) → p < length before → Raised seen (slice_index_or known p None) (slice_index before p)
    (slice_index new p)) → length new ≡ length before → RiseBelow f n old → RiseBelow f (n + 1) new
rise_more_of f n ranks seen firsts known old before new d first alone a b e raised long r =
    rise_more f n ranks firsts old new d first alone
    (λ p l. subst (λ o. Raised ranks (slice_index_or firsts p None) (slice_index o p) (slice_index new p)) e
    (subst (λ g. Raised ranks (slice_index_or g p None) (slice_index before p) (slice_index new p)) b
    (subst (λ v. Raised v (slice_index_or known p None) (slice_index before p) (slice_index new p)) a
    (raised p (subst (λ o. p < length o) (sym e) l))))) (long ∙ ap length e) r
