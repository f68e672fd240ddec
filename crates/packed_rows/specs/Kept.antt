-- Rows that are kept, as contracts see them. This project's own.
use Rattle.std.specs.Prelude.{ℕ, ◌-◌, List, length, drop}

-- the widths of a row's values, the most rows that there is room for, and the rows
pub record Kept : Type 0 where
  pub widths : List ℕ
  pub most : ℕ
  pub rows : List (List ℕ)

-- the last n of a list
abbrev pub last_ones : {X : Type 0} → ℕ → List X → List X
last_ones n xs = drop (length xs - n) xs
