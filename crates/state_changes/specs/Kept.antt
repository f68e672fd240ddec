-- How a log is kept: all notes in one list, and how many of them belong to each cycle. This project's own.
use Rattle.std.specs.Prelude.{◌≡◌, ℕ, ◌+◌, ◌-◌, ◌≤◌, List, [], ◌∷◌, length, take, drop}
use Rattle.state_changes.specs.Log.{Log}
use Rattle.state_changes.specs.declared.journal.Journal.TheInside.{Inside}

abbrev pub total : List ℕ → ℕ
total [] = 0
total (n ∷ ns) = n + total ns

-- a list in pieces of these lengths
abbrev pub grouped : {X : Type 0} → List ℕ → List X → List (List X)
grouped [] xs = []
grouped (n ∷ ns) xs = take n xs ∷ grouped ns (drop n xs)

abbrev pub log_of : {X : Type 0} → Inside X → Log X
log_of a = record {
  most = a.most;
  cycles = grouped a.counts.items (drop a.fresh a.items.items);
  fresh = take a.fresh a.items.items;
  room = a.items.capacity - length a.items.items;
}

pub record IsSound {X : Type 0} (a : Inside X) : Type 0 where
  pub some : 1 ≤ a.most
  pub capacity : a.counts.capacity ≡ a.most
  pub within : length a.counts.items ≤ a.most
  pub filled : length a.items.items ≤ a.items.capacity
  pub whole : a.fresh + total a.counts.items ≡ length a.items.items
