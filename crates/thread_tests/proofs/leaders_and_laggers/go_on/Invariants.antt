use Rattle.thread_tests.specs.Runs.{IsGoing}
use Rattle.thread_tests.proofs.leaders_and_laggers.go_on.Given as goal

abbrev pub invariant-loop : goal.invariant-loop
invariant-loop l = IsGoing l.board l.fn.post.number l.counter l.post
