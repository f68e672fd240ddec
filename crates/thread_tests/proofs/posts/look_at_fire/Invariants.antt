use Rattle.std.proofs.Common.{◌≤◌}
use Rattle.gang_board.specs.PostStates.{IsLeaderOf}
use Rattle.thread_tests.proofs.posts.look_at_fire.Given as goal

abbrev pub invariant-loop : goal.invariant-loop
invariant-loop l = IsLeaderOf l.board l.post × (l.none ≤ l.counter)
