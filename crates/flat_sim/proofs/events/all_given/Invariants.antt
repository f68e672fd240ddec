use Rattle.flat_sim.proofs.Told.{GivenOf}
use Rattle.flat_sim.proofs.events.all_given.Given as goal

abbrev pub invariant-loop-event : goal.invariant-loop-event
invariant-loop-event l = GivenOf l.nodes.flat.nodes l.nodes.numbers l.events l.all.items l.event-index
