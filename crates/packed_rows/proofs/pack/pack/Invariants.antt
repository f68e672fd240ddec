use Rattle.std.proofs.Common.{◌≡◌, ◌+◌, ◌*◌, ◌^◌, drop, length}
use Rattle.std.specs.List.{sum}
use Rattle.packed_rows.specs.Packed.{Fits, packed, word_count}
use Rattle.packed_rows.specs.Words.{IsHeld, place, written}
use Rattle.packed_rows.proofs.pack.pack.Given as goal

-- what was put, and the values that are left
abbrev pub invariant-loop-k : goal.invariant-loop-k
invariant-loop-k l = record {
  held : IsHeld l.held;
  put : place l.held + sum (drop l.k l.widths) ≡ sum l.widths;
  fit : Fits (drop l.k l.widths) (drop l.k l.row);
  size : length l.words ≡ word_count (sum l.widths);
  whole : written l.words l.held + 2 ^ place l.held * packed (drop l.k l.widths) (drop l.k l.row) ≡ packed l.widths l.row;
}
