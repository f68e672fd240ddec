use Rattle.design_names.proofs.PathLaws.{Up, steps_left}
use Rattle.design_names.proofs.path.scopes_to.Given as goal

abbrev pub invariant-loop-next : goal.invariant-loop-next
invariant-loop-next l = Up l.fn.flat l.fn.scope l.up.items l.next

abbrev pub decreases-loop-next : goal.decreases-loop-next
decreases-loop-next l = steps_left l.next
