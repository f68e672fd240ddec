use Rattle.std.proofs.Common.{◌≡◌, ◌+◌, length}
use Rattle.vl_pre.specs.Pieces.{escaped_length}
use Rattle.vl_pre.proofs.pieces.escaped_length.Given as goal

abbrev pub invariant-loop-byte : goal.invariant-loop-byte
invariant-loop-byte l = record {
  counted : l.count + escaped_length l.continues l.rest ≡ escaped_length l.continues l.bytes;
  within : l.count + length l.rest ≡ length l.bytes;
}

abbrev pub decreases-loop-byte : goal.decreases-loop-byte
decreases-loop-byte l = length l.rest
