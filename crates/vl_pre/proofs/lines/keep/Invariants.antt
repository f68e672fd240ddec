use Rattle.vl_pre.specs.Pieces.{kept}
use Rattle.vl_pre.proofs.WriteLaws.{Collects}
use Rattle.vl_pre.proofs.lines.keep.Given as goal

abbrev pub invariant-loop-left : goal.invariant-loop-left
invariant-loop-left l = Collects l.fn.body.items (kept l.fn.n l.fn.at) l.body.items (kept l.left l.at)

abbrev pub decreases-loop-left : goal.decreases-loop-left
decreases-loop-left l = l.left
