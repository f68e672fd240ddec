use Rattle.std.proofs.Common.{◌≡◌, drop, length}
use Rattle.held_state.specs.Moves.{with_moved}
use Rattle.held_state.proofs.commits.write.Given as goal

-- what is left to write, written to what stands now, is all
abbrev pub invariant-loop-k : goal.invariant-loop-k
invariant-loop-k g l = record {
  count : length l.slots ≡ length l.fn.slots;
  all : with_moved l.slots (drop l.k l.moves) (drop l.k l.room) ≡ with_moved l.fn.slots l.moves l.room;
}
