use Rattle.std.proofs.Common.{◌≡◌, ◌≤◌, ◌++◌, take, drop, length}
use Rattle.std.specs.List.{sum}
use Rattle.packed_rows.specs.Packed.{number, unpacked}
use Rattle.packed_rows.specs.Words.{IsHeld, left, room}
use Rattle.packed_rows.proofs.unpack.unpack.Given as goal

-- the values that were taken, and those that are left
abbrev pub invariant-loop-k : goal.invariant-loop-k
invariant-loop-k l = record {
  held : IsHeld l.held;
  enough : sum (drop l.k l.widths) ≤ room l.words l.held;
  size : length l.row ≡ length l.widths;
  whole : take l.k l.row ++ unpacked (drop l.k l.widths) (left l.words l.held) ≡ unpacked l.widths (number l.words);
}
