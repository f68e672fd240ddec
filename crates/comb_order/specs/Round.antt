-- Parts that read one another in a round. This project's own.
use Rattle.std.specs.Prelude.{◌≡◌, ℕ, suc, ◌-◌, ◌<◌, ◌≤◌, List, length, slice_index, slice_index_or, Option, None}
use Rattle.std.specs.Option.{unwrap_or}
use Rattle.netlist.specs.Design.{Flat}
use Rattle.netlist.specs.Graph.{ReadsIn}
use Rattle.netlist.specs.Order.{IsNearest}

-- A list of parts that begins with the part `start`. Each next one, and `start` after the last, is the nearest to `start` of those that
-- the one before it reads.
pub record IsRound (f : Flat) (start : ℕ) (parts : List ℕ) : Type 0 where
  pub some : 0 < length parts
  pub first : slice_index parts 0 ≡ start
  pub next : (i : ℕ) → i < length parts
      → IsNearest f (slice_index parts i) (slice_index_or parts (suc i) start) start (length parts - suc i)

-- no lower part reads itself
abbrev pub IsLeast : Flat → ℕ → Type 0
IsLeast f start = (p n : ℕ) → ReadsIn f (suc n) p p → start ≤ p

-- the part that a part reads first; itself where there is none
abbrev pub next_of : List (Option ℕ) → ℕ → ℕ
next_of firsts p = unwrap_or (slice_index_or firsts p None) p
