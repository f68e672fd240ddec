use Rattle.design_names.proofs.LinkLaws.{Linking}
use Rattle.design_names.proofs.links.link.Given as goal

abbrev pub invariant-loop-left : goal.invariant-loop-left
invariant-loop-left l = Linking l.owners l.count l.left l.links.first.items l.links.next.items

abbrev pub decreases-loop-left : goal.decreases-loop-left
decreases-loop-left l = l.left
