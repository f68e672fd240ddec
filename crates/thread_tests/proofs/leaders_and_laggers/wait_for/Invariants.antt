use Rattle.std.proofs.Common.{◌≡◌}
use Rattle.gang_board.specs.CatchUp.{IsLaggerAt}
use Rattle.thread_tests.specs.Runs.{failing_named}
use Rattle.thread_tests.proofs.leaders_and_laggers.wait_for.Given as goal

abbrev pub invariant-loop : goal.invariant-loop
invariant-loop g l = IsLaggerAt l.board failing_named l.fn.post.number l.post × (l.post.position ≡ l.fn.post.position)

abbrev pub invariant-loop-number : goal.invariant-loop-number
invariant-loop-number g l = IsLaggerAt l.board failing_named l.fn.post.number l.post × (l.post.position ≡ l.fn.post.position)
