use Rattle.std.proofs.Common.{◌≡◌, take}
use Rattle.flat_sim.proofs.kept.widened.Given as goal

abbrev pub invariant-loop-word : goal.invariant-loop-word
invariant-loop-word l = l.numbers.items ≡ take l.word-index l.words
