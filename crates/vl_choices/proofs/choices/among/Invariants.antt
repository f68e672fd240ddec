use Rattle.vl_choices.proofs.Among.{From}
use Rattle.vl_choices.proofs.choices.among.Given as goal

abbrev pub invariant-loop-k : goal.invariant-loop-k
invariant-loop-k l = From l.fn.nodes l.nodes l.list l.fn.last l.all l.k

abbrev pub decreases-loop-k : goal.decreases-loop-k
decreases-loop-k l = l.k
