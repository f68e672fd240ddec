use Rattle.std.proofs.Common.{◌≡◌, ◌+◌, false, length}
use Rattle.vl_pre.specs.Pieces.{string_length}
use Rattle.vl_pre.proofs.pieces.string_length.Given as goal

abbrev pub invariant-loop-byte : goal.invariant-loop-byte
invariant-loop-byte l = record {
  counted : l.count + string_length l.continues l.escaped l.rest ≡ string_length l.continues false l.bytes;
  within : l.count + length l.rest ≡ length l.bytes;
}

abbrev pub decreases-loop-byte : goal.decreases-loop-byte
decreases-loop-byte l = length l.rest
