-- How the last rows are kept: in a ring, in which the next one takes the place of the oldest. This project's own.
use Rattle.std.specs.Prelude.{◌≡◌, ℕ, ◌<◌, List, ◌++◌, length, take, drop, ◌⊎◌}
use Rattle.packed_rows.specs.Kept.{Kept}
use Rattle.packed_rows.specs.declared.last.LastRows.TheInside.{Inside}

-- a list from a place on, and then from its start up to there
abbrev pub turned : {X : Type 0} → ℕ → List X → List X
turned n xs = drop n xs ++ take n xs

abbrev pub kept_of : Inside → Kept
kept_of a = record { widths = a.rows.widths; most = a.rows.most; rows = turned a.next a.rows.rows }

-- the oldest row isn't the first one only where all room is taken
pub record IsRing (a : Inside) : Type 0 where
  pub within : a.next < a.rows.most
  pub full : (a.next ≡ 0) ⊎ (length a.rows.rows ≡ a.rows.most)
