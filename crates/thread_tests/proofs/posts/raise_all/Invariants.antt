use Rattle.thread_tests.specs.Runs.{IsIdle}
use Rattle.thread_tests.proofs.posts.raise_all.Given as goal

abbrev pub invariant-loop : goal.invariant-loop
invariant-loop l = IsIdle l.board l.counter l.post
