use Rattle.std.proofs.Common.{◌≡◌, take, length}
use Rattle.held_state.specs.Moves.{HaveMoved}
use Rattle.held_state.proofs.commits.read.Given as goal

-- the numbers read so far are those of the first moves
abbrev pub invariant-loop-k : goal.invariant-loop-k
invariant-loop-k g l = record {
  count : length l.room ≡ length l.fn.room;
  moved : HaveMoved l.slots (take l.k l.moves) (take l.k l.room);
}
