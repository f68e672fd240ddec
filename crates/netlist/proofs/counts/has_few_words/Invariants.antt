use Rattle.std.proofs.Common.{◌≡◌, ◌+◌, take, length}
use Rattle.std.specs.List.{sum_by}
use Rattle.dt_core.specs.declared.limits.TheConstants.{MAX_WORDS}
use Rattle.netlist.proofs.counts.has_few_words.Given as goal

-- the words so far, and those that are left, are the limit
abbrev pub invariant-loop-memory : goal.invariant-loop-memory
invariant-loop-memory l = l.left + sum_by (λ m. length m.words) (take l.memory-index l.memories) ≡ MAX_WORDS
