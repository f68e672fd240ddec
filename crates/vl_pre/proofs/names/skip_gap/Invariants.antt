use Rattle.std.proofs.Common.{length}
use Rattle.vl_pre.specs.Directives.{after_gap}
use Rattle.vl_pre.proofs.StepLaws.{SkipsGap}
use Rattle.vl_pre.proofs.names.skip_gap.Given as goal

abbrev pub invariant-loop-at : goal.invariant-loop-at
invariant-loop-at l = SkipsGap (after_gap (length l.fn.at) l.fn.at) l.at

abbrev pub decreases-loop-at : goal.decreases-loop-at
decreases-loop-at l = length l.at
