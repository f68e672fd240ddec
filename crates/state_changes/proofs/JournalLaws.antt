-- A journal whose cycle is closed, and whose oldest one is forgotten.
use Rattle.std.proofs.Common.{◌≡◌, ℕ, ◌+◌, ◌-◌, ◌≤◌, List, ◌∷◌, length, take, refl, ap, ◌∙◌, arith}
use Rattle.std.specs.Prelude.{slice_get}
use Rattle.std.specs.Option.{unwrap_or}
use Rattle.std.proofs.lemmas.List.{length-take, length-take-le}
use Rattle.circular_buffer.specs.Buffer.{Buffer, buffer}
use Rattle.state_changes.specs.Log.{Log}
use Rattle.state_changes.specs.Kept.{total, grouped, log_of, IsSound}
use Rattle.state_changes.specs.declared.journal.Journal.TheInside.{Inside}
use Rattle.state_changes.proofs.Groups.{first_groups, groups_within, oldest}

-- how many notes a cycle has that there is no place for
abbrev pub Forgotten : {X : Type 0} → Inside X → ℕ → Type 0
Forgotten a count = count ≡ unwrap_or (slice_get (a.fresh ∷ a.counts.items) a.counts.capacity) 0

module _ {X : Type 0} (a : Inside X) (sound : IsSound a) (count : ℕ) (gone : Forgotten a count) where
  abbrev pub all : List ℕ
  all = a.fresh ∷ a.counts.items

  split : total all ≡ total (take a.counts.capacity all) + count
  split = oldest a.counts.capacity all count (omega (arith, sound.within, sound.capacity)) gone

  pub is_within : count ≤ length a.items.items
  is_within = let whole : total all ≡ a.fresh + total a.counts.items = refl in omega (arith, whole, sound.whole, split)

  module _ (items : Buffer X) (counts : Buffer ℕ)
      (items_are : items ≡ buffer (take (length a.items.items - count) a.items.items) a.items.capacity)
      (counts_are : counts ≡ buffer (take a.counts.capacity all) a.counts.capacity) where
    pub closed : IsSound (record { most = a.most; items = items; counts = counts; fresh = 0 })
    closed =
        let whole : total all ≡ a.fresh + total a.counts.items = refl in
        let n : length items.items ≡ length a.items.items - count =
        ap (λ (b : Buffer X). length b.items) items_are ∙ length-take-le (length a.items.items - count) a.items.items (omega arith) in
        let m : length counts.items ≡ length (take a.counts.capacity all) = ap (λ (b : Buffer ℕ). length b.items) counts_are in
        let t : total counts.items ≡ total (take a.counts.capacity all) = ap (λ (b : Buffer ℕ). total b.items) counts_are in
        record {
          some = sound.some;
          capacity = ap (λ (b : Buffer ℕ). b.capacity) counts_are ∙ sound.capacity;
          within = omega (arith, m, length-take a.counts.capacity all, sound.capacity);
          filled = omega (arith, n, sound.filled, ap (λ (b : Buffer X). b.capacity) items_are);
          whole = omega (arith, t, n, split, whole, sound.whole);
        }

    pub closed_cycles : (old : Log X) → log_of a ≡ old → grouped counts.items items.items ≡ take old.most (old.fresh ∷ old.cycles)
    closed_cycles old is =
        let whole : total all ≡ a.fresh + total a.counts.items = refl in
        let few : total (take a.counts.capacity all) ≤ length a.items.items - count = omega (arith, whole, sound.whole, split) in
        (λ i. grouped (counts_are i).items (items_are i).items)
        ∙ groups_within (take a.counts.capacity all) (length a.items.items - count) a.items.items few
        ∙ first_groups a.counts.capacity all a.items.items
        ∙ ap (λ (k : ℕ). take k (grouped all a.items.items)) sound.capacity
        ∙ (λ i. take (is i).most ((is i).fresh ∷ (is i).cycles))
