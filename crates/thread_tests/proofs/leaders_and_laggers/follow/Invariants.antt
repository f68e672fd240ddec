use Rattle.std.proofs.Common.{◌≡◌}
use Rattle.gang_board.specs.CatchUp.{IsLaggerAt}
use Rattle.thread_tests.specs.Runs.{failing_named}
use Rattle.thread_tests.proofs.leaders_and_laggers.follow.Given as goal

abbrev pub invariant-loop-at : goal.invariant-loop-at
invariant-loop-at g l = IsLaggerAt l.board failing_named l.number l.post × (l.post.position ≡ l.at)
