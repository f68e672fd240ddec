use Rattle.std.proofs.Common.{◌≡◌, ◌+◌, ◌*◌, take, length}
use Rattle.std.specs.List.{sum_by}
use Rattle.netlist.proofs.counts.take_few_bits.Given as goal

-- the bits so far, and those that are left, are the limit
abbrev pub invariant-loop-memory : goal.invariant-loop-memory
invariant-loop-memory l = l.left + sum_by (λ m. m.width * length m.words) (take l.memory-index l.memories) ≡ l.most
