use Rattle.thread_tests.proofs.Failing.{begins}
use Rattle.thread_tests.proofs.boards.sixteen_leaders_and_laggers.Goals as goal

pub new-requires-clause-begins : goal.new-requires-clause-begins
new-requires-clause-begins g c = begins
