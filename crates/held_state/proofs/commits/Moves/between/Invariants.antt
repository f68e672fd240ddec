use Rattle.std.proofs.Common.{◌≡◌, drop, ◌++◌}
use Rattle.held_state.specs.Moves.{narrow_moves, wide_moves}
use Rattle.held_state.proofs.commits.Moves.between.Given as goal

-- the moves so far, and those that are left, are all
abbrev pub invariant-loop-k : goal.invariant-loop-k
invariant-loop-k l = record {
  narrow : l.moves.narrow.items ++ narrow_moves (drop l.k l.to) (drop l.k l.from) ≡ narrow_moves l.to l.from;
  wide : l.moves.wide.items ++ wide_moves (drop l.k l.to) (drop l.k l.from) ≡ wide_moves l.to l.from;
}
