use Rattle.std.proofs.Common.{length}
use Rattle.vl_pre.specs.Pieces.{rest_of_line}
use Rattle.vl_pre.proofs.StepLaws.{ReadsLine}
use Rattle.vl_pre.proofs.lines.rest_of_line.Given as goal

abbrev pub invariant-loop-body : goal.invariant-loop-body
invariant-loop-body l = ReadsLine (rest_of_line (length l.fn.at) l.continues l.fn.at) l.body.items l.continues l.at

abbrev pub decreases-loop-body : goal.decreases-loop-body
decreases-loop-body l = length l.at
