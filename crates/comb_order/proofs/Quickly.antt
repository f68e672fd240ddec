-- Labels that rise tell an order, and labels that never fall tell that a part is the least of those that read themselves.
use Rattle.std.proofs.Common.{◌≡◌, ℕ, zero, suc, ◌<◌, ◌≤◌, inl, inr, List, length, ap, arith}
use Rattle.std.specs.Prelude.{Option, None, Some, slice_index, slice_index_or}
use Rattle.std.proofs.Math.Logic.{⊎_elim}
use Rattle.std.proofs.lemmas.Bool.{cases_lt}
use Rattle.netlist.specs.Design.{Flat}
use Rattle.netlist.specs.Graph.{ReadsPart, ReadsIn}
use Rattle.comb_order.specs.First.{ComesFirst, IsFirst, AreFirst}
use Rattle.comb_order.specs.Labels.{AreRising, StepsUp, NeverFalls}
use Rattle.comb_order.specs.Round.{IsLeast}
use Rattle.comb_order.proofs.Distances.{reader_there}

no_lower : (ranks : List ℕ) (a b : ℕ) → ComesFirst ranks a b → slice_index ranks a ≤ slice_index ranks b
no_lower ranks a b h =
    ⊎_elim (λ (x : slice_index ranks a < slice_index ranks b). omega (arith, x))
    (λ (x : (slice_index ranks a ≡ slice_index ranks b) × (a ≤ b)). omega (arith, x.0)) h

up : (f : Flat) (labels : List ℕ) (p q : ℕ) (first : Option ℕ) → IsFirst labels (ReadsPart f p) first
    → StepsUp labels first p → ReadsPart f p q → slice_index labels p < slice_index labels q
up f labels p q None h s reads = absurd (h q reads)
up f labels p q (Some b) h s reads = (let n = no_lower labels b q (h.1 q reads) in omega (arith, n, s))

level : (f : Flat) (labels : List ℕ) (p q : ℕ) (first : Option ℕ) → IsFirst labels (ReadsPart f p) first
    → NeverFalls labels first p → ReadsPart f p q → slice_index labels p ≤ slice_index labels q
level f labels p q None h s reads = absurd (h q reads)
level f labels p q (Some b) h s reads = (let n = no_lower labels b q (h.1 q reads) in omega (arith, n, s))

pub rise_all : (f : Flat) (labels : List ℕ) (firsts : List (Option ℕ)) → length labels ≡ length f.driven
    → AreFirst f labels firsts
    → ((p : ℕ) → p < length firsts → StepsUp labels (slice_index_or firsts p None) p) → AreRising f labels
rise_all f labels firsts count first steps = record {
  count = count;
  each = λ p q reads.
      let there : p < length f.driven = reader_there f p q reads in
      up f labels p q (slice_index_or firsts p None) (first.each p there) (steps p (omega (arith, there, first.count)))
      reads;
}

rises_along : (f : Flat) (labels : List ℕ) (firsts : List (Option ℕ)) → AreFirst f labels firsts
    → ((p : ℕ) → p < length firsts → NeverFalls labels (slice_index_or firsts p None) p) → (n p q : ℕ)
    → ReadsIn f n p q → slice_index labels p ≤ slice_index labels q
rises_along f labels firsts first keeps zero p q h = (let e = ap (slice_index labels) h in omega (arith, e))
rises_along f labels firsts first keeps (suc n) p q h =
    let there : p < length f.driven = reader_there f p h.0 h.1 in
    let a = level f labels p h.0 (slice_index_or firsts p None) (first.each p there)
    (keeps p (omega (arith, there, first.count))) h.1 in
    let b = rises_along f labels firsts first keeps n h.0 q h.2 in omega (arith, a, b)

pub least_from : (f : Flat) (labels : List ℕ) (firsts : List (Option ℕ)) (s : ℕ) → AreFirst f labels firsts
    → ((p : ℕ) → p < length firsts → NeverFalls labels (slice_index_or firsts p None) p)
    → ((p : ℕ) → p < s → StepsUp labels (slice_index_or firsts p None) p) → IsLeast f s
least_from f labels firsts s first keeps steps p n way = elim (cases_lt p s) [
  | inr not_less ↦ not_less
  | inl less ↦
      let there : p < length f.driven = reader_there f p way.0 way.1 in
      let a = up f labels p way.0 (slice_index_or firsts p None) (first.each p there) (steps p less) way.1 in
      let b = rises_along f labels firsts first keeps n way.0 p way.2 in absurd (omega (arith, a, b))
]
