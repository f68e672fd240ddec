-- Where there is an order each way through parts goes down in it, so no part reads itself.
use Rattle.std.proofs.Common.{◌≡◌, ℕ, zero, suc, ◌+◌, ◌-◌, ◌<◌, ◌≤◌, List, length, sym, ◌∙◌, subst, arith}
use Rattle.std.specs.Prelude.{slice_index, slice_index_or}
use Rattle.netlist.specs.Design.{Flat}
use Rattle.netlist.specs.Graph.{ReadsPart, ReadsIn}
use Rattle.netlist.specs.Order.{IsOrder}
use Rattle.comb_order.specs.Laws.{ExclusionLaw}
use Rattle.comb_order.proofs.Distances.{read_there, reader_there}

-- where a part stands that another comes to in n reads
record Lower (order : List ℕ) (q i n : ℕ) : Type 0 where
  at : ℕ
  within : at < length order
  is : slice_index order at ≡ q
  down : at + n ≤ i

goes_down : (f : Flat) (order : List ℕ) → IsOrder f order → (n p q i : ℕ) → i < length order
    → slice_index order i ≡ p → ReadsIn f n p q → Lower order q i n
goes_down f order o zero p q i l e h = record { at = i; within = l; is = e ∙ h; down = omega arith }
goes_down f order o (suc n) p q i l e h =
    let r : ℕ = h.0 in
    let k = o.each r (read_there f p r h.1) in
    let reads : ReadsPart f (slice_index order i) (slice_index order k.0) =
    subst (λ x. ReadsPart f x (slice_index order k.0)) (sym e) (subst (λ y. ReadsPart f p y) (sym k.2) h.1) in
    let less : k.0 < i = o.after i k.0 l k.1 reads in
    let rest = goes_down f order o n r q k.0 k.1 k.2 h.2 in
    record { at = rest.at; within = rest.within; is = rest.is; down = omega (arith, rest.down, less) }

none_below : (f : Flat) (order : List ℕ) → IsOrder f order → (n p b i : ℕ) → i < b → i < length order
    → slice_index order i ≡ p → ReadsIn f (suc n) p p → ⊥
none_below f order o n p zero i b l e h = omega (arith, b)
none_below f order o n p (suc b) i less l e h =
    let k = goes_down f order o (suc n) p p i l e h in
    none_below f order o n p b k.at (omega (arith, k.down, less)) k.within k.is h

pub excluded : ExclusionLaw
excluded f order parts o l =
    let start : ℕ = slice_index parts 0 in
    let q : ℕ = slice_index_or parts 1 start in
    let near = l.next 0 l.some in
    let way : ReadsIn f (suc (length parts - 1)) start start = (q, near.reads, near.back) in
    let there : start < length f.driven = reader_there f start q near.reads in
    let i = o.each start there in
    none_below f order o (length parts - 1) start (suc i.0) i.0 (omega arith) i.1 i.2 way
