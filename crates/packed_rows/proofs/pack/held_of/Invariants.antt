use Rattle.std.proofs.Common.{◌≡◌, ◌+◌, ◌*◌, ◌^◌, drop}
use Rattle.std.specs.List.{sum}
use Rattle.packed_rows.specs.Packed.{Fits, packed}
use Rattle.packed_rows.specs.Words.{IsHeld}
use Rattle.packed_rows.proofs.pack.held_of.Given as goal

-- what is held, and the values that are left
abbrev pub invariant-loop-k : goal.invariant-loop-k
invariant-loop-k l = record {
  held : IsHeld l.held;
  first : l.held.next ≡ 0;
  put : l.held.count + sum (drop l.k l.widths) ≡ sum l.widths;
  fit : Fits (drop l.k l.widths) (drop l.k l.row);
  whole : l.held.bits + 2 ^ l.held.count * packed (drop l.k l.widths) (drop l.k l.row) ≡ packed l.widths l.row;
}
