use Rattle.flat_sim.proofs.Told.{ToldOf}
use Rattle.flat_sim.proofs.events.all_fired.Given as goal

abbrev pub invariant-loop-block : goal.invariant-loop-block
invariant-loop-block l = ToldOf l.nodes.flat.nodes l.nodes.numbers l.nodes.flat.blocks l.telling l.block-index
