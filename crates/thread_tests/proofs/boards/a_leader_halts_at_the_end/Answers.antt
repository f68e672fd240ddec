use Rattle.thread_tests.proofs.Brief.{begins_late}
use Rattle.thread_tests.proofs.boards.a_leader_halts_at_the_end.Goals as goal

pub new-requires-clause-begins : goal.new-requires-clause-begins
new-requires-clause-begins g c = begins_late
