use Rattle.thread_tests.specs.Runs.{one_fires}
use Rattle.thread_tests.proofs.boards.a_leader_halts_after_a_fire.Given as goal

abbrev pub ghosts-new : goal.ghosts-new
ghosts-new g a = record { run = one_fires }
