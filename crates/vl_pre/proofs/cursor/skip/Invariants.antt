use Rattle.std.proofs.Common.{◌≡◌, drop}
use Rattle.vl_pre.proofs.cursor.skip.Given as goal

abbrev pub invariant-loop-left : goal.invariant-loop-left
invariant-loop-left l = drop l.left l.at ≡ drop l.fn.n l.fn.at

abbrev pub decreases-loop-left : goal.decreases-loop-left
decreases-loop-left l = l.left
