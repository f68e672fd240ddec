use Rattle.std.proofs.Common.{◌-◌}
use Rattle.vl_braces.proofs.Copied.{Copied}
use Rattle.vl_braces.proofs.braces.copies.Given as goal

abbrev pub invariant-loop-done : goal.invariant-loop-done
invariant-loop-done l = Copied l.fn.nodes l.nodes l.of l.all l.count l.done

abbrev pub decreases-loop-done : goal.decreases-loop-done
decreases-loop-done l = l.count - l.done
