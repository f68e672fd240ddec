-- Things that stand in owners, by number: of each owner the first, and of each thing the next in the same owner. This
-- project's own.
use Rattle.std.specs.Prelude.{◌≡◌, ℕ, ◌+◌, ◌<◌, ◌≤◌, if◌then◌else◌, List, [], ◌∷◌, drop, length, slice_index_or, slice_set, Option, Some, None}
use Rattle.design_names.specs.Tree.{is_in}
use Rattle.design_names.specs.declared.links.Links.{Links}

-- the first of these things, which are numbered from n on, that stands in k
abbrev pub first_in : ℕ → ℕ → List (Option ℕ) → Option ℕ
first_in k n [] = None
first_in k n (o ∷ os) = if is_in k o then Some n else first_in k (n + 1) os

-- the first of those from j on
abbrev pub first_from : List (Option ℕ) → ℕ → ℕ → Option ℕ
first_from owners k j = first_in k j (drop j owners)

-- the first from j on that stands where another does
abbrev pub first_beside : List (Option ℕ) → ℕ → Option ℕ → Option ℕ
first_beside owners j None = None
first_beside owners j (Some k) = first_from owners k j

-- the things from j on are linked: of each owner the first of them, and of each of them the next
pub record AreLinked (owners : List (Option ℕ)) (count j : ℕ) (first next : List (Option ℕ)) : Type 0 where
  pub firsts : length first ≡ count
  pub nexts : length next ≡ length owners
  pub begins : (k : ℕ) (d : Option ℕ) → k < count → slice_index_or first k d ≡ first_from owners k j
  pub goes_on : (i : ℕ) (d : Option ℕ) → j ≤ i → i < length owners
      → slice_index_or next i d ≡ first_beside owners (i + 1) (slice_index_or owners i d)
  pub none_yet : (i : ℕ) (d : Option ℕ) → i < j → i < length owners → slice_index_or next i d ≡ None

-- the lists after one thing more, in front of those of its owner
abbrev pub first_after : List (Option ℕ) → Option ℕ → ℕ → List (Option ℕ)
first_after first None n = first
first_after first (Some k) n = slice_set first k (Some n)

abbrev pub next_after : List (Option ℕ) → List (Option ℕ) → Option ℕ → ℕ → List (Option ℕ)
next_after first next None n = next
next_after first next (Some k) n = slice_set next n (slice_index_or first k None)

-- all of them are
abbrev pub IsLinked : List (Option ℕ) → ℕ → Links → Type 0
IsLinked owners count links = AreLinked owners count 0 links.first.items links.next.items
