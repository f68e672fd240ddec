use Rattle.std.proofs.Common.{ℕ, ◌<◌, ◌≤◌}
use Rattle.token_net.specs.Posts.{sight}
use Rattle.gang_board.specs.PostStates.{lagger}
use Rattle.thread_tests.proofs.leaders_and_laggers.has_seen_far.Given as goal

abbrev pub invariant-loop-number : goal.invariant-loop-number
invariant-loop-number l = (p : ℕ) → p < l.number → l.position ≤ (sight (lagger l.post) p).at
