use Rattle.thread_tests.specs.Runs.{idle}
use Rattle.thread_tests.proofs.posts.leader_looks.Given as goal

abbrev pub ghosts-new : goal.ghosts-new
ghosts-new a = record { run = idle }
