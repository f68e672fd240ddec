use Rattle.thread_tests.proofs.Idle.{begins}
use Rattle.thread_tests.proofs.posts.leader_looks.Goals as goal

pub new-requires-clause-begins : goal.new-requires-clause-begins
new-requires-clause-begins c = begins
