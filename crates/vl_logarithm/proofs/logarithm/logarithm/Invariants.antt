use Rattle.vl_logarithm.proofs.Steps.{Reached}
use Rattle.vl_logarithm.proofs.logarithm.logarithm.Given as goal

abbrev pub invariant-loop-k : goal.invariant-loop-k
invariant-loop-k l = Reached l.fn.nodes l.nodes l.of l.least l.k

abbrev pub decreases-loop-k : goal.decreases-loop-k
decreases-loop-k l = l.k
