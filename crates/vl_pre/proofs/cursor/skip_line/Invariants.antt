use Rattle.std.proofs.Common.{◌≡◌, length}
use Rattle.vl_pre.specs.Pieces.{from_stop}
use Rattle.vl_pre.proofs.cursor.skip_line.Given as goal

abbrev pub invariant-loop-at : goal.invariant-loop-at
invariant-loop-at l = from_stop l.continues l.at ≡ from_stop l.continues l.fn.at

abbrev pub decreases-loop-at : goal.decreases-loop-at
decreases-loop-at l = length l.at
