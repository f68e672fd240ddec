use Rattle.flat_sim.proofs.Loops.{FirstOf}
use Rattle.flat_sim.proofs.kept.first_words.Given as goal

abbrev pub invariant-loop-memory : goal.invariant-loop-memory
invariant-loop-memory l = FirstOf l.memories l.words.items l.memory-index
