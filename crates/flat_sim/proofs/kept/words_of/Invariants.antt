use Rattle.std.specs.Prelude.{map}
use Rattle.flat_sim.proofs.Loops.{WordsOf}
use Rattle.flat_sim.proofs.kept.words_of.Given as goal

abbrev pub invariant-loop-k : goal.invariant-loop-k
invariant-loop-k l = WordsOf l.memories (map (λ v. v.items) l.state) l.words.items l.k
