use Rattle.std.proofs.Common.{ℕ, ◌<◌, get_or}
use Rattle.held_state.specs.declared.commits.Move.{Move}
use Rattle.held_state.proofs.commits.end_of.Given as goal

-- above the slots of the first moves
abbrev pub invariant-loop-one : goal.invariant-loop-one
invariant-loop-one l = (k : ℕ) (d : Move) → k < l.one-index → (get_or l.moves k d).to < l.end
