-- Parts that stand by rising labels stand in an order.
use Rattle.std.proofs.Common.{◌≡◌, ℕ, ◌-◌, ◌^◌, ◌<◌, ◌≤◌, inl, inr, List, length, refl, ◌∙◌, subst, arith}
use Rattle.std.specs.Prelude.{slice_index}
use Rattle.std.specs.List.{Contains}
use Rattle.std.specs.List.Sorted.{IsPermutation, IsNonDecreasingBy}
use Rattle.std.proofs.lemmas.Bool.{cases_lt}
use Rattle.std.proofs.lemmas.List.Elements.{All-contains, All-from_get_or, Contains-get_or}
use Rattle.std.proofs.lemmas.List.Sorted.{Contains-permutation}
use Rattle.netlist.specs.Design.{Flat}
use Rattle.netlist.specs.Order.{IsOrder}
use Rattle.comb_order.specs.Labels.{AreRising}

abbrev At : List ℕ → ℕ → Type 0
At xs x = (i : ℕ) × (i < length xs) × (slice_index xs i ≡ x)

at_from : (xs : List ℕ) (x : ℕ) → Contains xs x → At xs x
at_from xs x h = All-contains (At xs) xs x (All-from_get_or (At xs) xs 0 (λ i l. (i, l, refl))) h

abbrev pub key : List ℕ → ℕ → ℕ
key labels p = 18446744073709551615 - slice_index labels p

pub sorted_order : (f : Flat) (labels old new : List ℕ) → AreRising f labels
    → ((p : ℕ) → slice_index labels p < 2 ^ 64) → length old ≡ length f.driven
    → ((p : ℕ) → p < length old → slice_index old p ≡ p) → length new ≡ length old → IsPermutation old new
    → IsNonDecreasingBy (key labels) new → IsOrder f new
sorted_order f labels old new rise top count all long moved order = record {
  count = long ∙ count;
  each = λ p l.
      let there : p < length old = omega (arith, l, count) in
      at_from new p (Contains-permutation old new p moved
      (subst (λ x. Contains old x) (all p there) (Contains-get_or old p 0 there)));
  after = λ i j a b reads. elim (cases_lt j i) [
    | inl before ↦ before
    | inr not_before ↦
        let up : slice_index labels (slice_index new i) < slice_index labels (slice_index new j) =
        rise.each (slice_index new i) (slice_index new j) reads in
        let keys : key labels (slice_index new i) ≤ key labels (slice_index new j) = order i j 0 not_before b in
        let limit = top (slice_index new j) in
        absurd (omega (arith, up, keys, limit))
  ];
}
