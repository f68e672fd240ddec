use Rattle.std.proofs.Common.{◌≡◌, length}
use Rattle.vl_pre.specs.Pieces.{after_close}
use Rattle.vl_pre.proofs.cursor.skip_to_close.Given as goal

abbrev pub invariant-loop-at : goal.invariant-loop-at
invariant-loop-at l = after_close l.at ≡ after_close l.fn.at

abbrev pub decreases-loop-at : goal.decreases-loop-at
decreases-loop-at l = length l.at
