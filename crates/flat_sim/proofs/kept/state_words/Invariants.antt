use Rattle.std.specs.Prelude.{map}
use Rattle.flat_sim.proofs.Loops.{StateOf}
use Rattle.flat_sim.proofs.kept.state_words.Given as goal

abbrev pub invariant-loop-k : goal.invariant-loop-k
invariant-loop-k l = StateOf l.memories l.words (map (λ v. v.items) l.state.items) l.k
