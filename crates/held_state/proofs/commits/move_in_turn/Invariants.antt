use Rattle.std.proofs.Common.{◌≡◌, ℕ, ◌<◌, drop, length}
use Rattle.std.specs.List.{All}
use Rattle.held_state.specs.declared.commits.Move.{Move}
use Rattle.held_state.specs.Moves.{moved, with_moved}
use Rattle.held_state.proofs.InTurn.{SameFrom}
use Rattle.held_state.proofs.commits.move_in_turn.Given as goal

-- what is left to be moved, moved from what stands now, gives all; slots from which moves go stand as they did
abbrev pub invariant-loop-one : goal.invariant-loop-one
invariant-loop-one g l = record {
  count : length l.slots ≡ length l.fn.slots;
  same : (n : ℕ) → All (λ (m : Move). m.to < n) l.moves → SameFrom n l.fn.slots l.slots;
  all : (d : _) → with_moved l.slots (drop l.one-index l.moves) (drop l.one-index (moved d l.fn.slots l.moves))
      ≡ with_moved l.fn.slots l.moves (moved d l.fn.slots l.moves);
}
