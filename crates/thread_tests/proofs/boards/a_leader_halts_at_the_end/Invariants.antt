use Rattle.thread_tests.specs.Runs.{quiet}
use Rattle.thread_tests.proofs.boards.a_leader_halts_at_the_end.Given as goal

abbrev pub ghosts-new : goal.ghosts-new
ghosts-new g a = record { run = quiet }
