use Rattle.std.specs.Prelude.{sum}
use Rattle.comb_order.specs.Distance.{AreSupported}
use Rattle.comb_order.proofs.distance.distances.Given as goal

abbrev pub invariant-loop-ranks : goal.invariant-loop-ranks
invariant-loop-ranks l = AreSupported l.flat l.to l.ranks.items

abbrev pub decreases-loop-ranks : goal.decreases-loop-ranks
decreases-loop-ranks l = sum l.ranks.items
