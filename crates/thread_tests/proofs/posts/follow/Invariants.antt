use Rattle.std.proofs.Common.{◌≤◌}
use Rattle.gang_board.specs.CatchUp.{IsLaggerAt}
use Rattle.thread_tests.specs.Runs.{idle_named}
use Rattle.thread_tests.proofs.posts.follow.Given as goal

abbrev pub invariant-loop : goal.invariant-loop
invariant-loop l = IsLaggerAt l.board idle_named 0 l.post × (l.ahead ≤ l.counter)
