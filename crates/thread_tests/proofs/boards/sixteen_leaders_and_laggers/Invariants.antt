use Rattle.thread_tests.specs.Runs.{failing}
use Rattle.thread_tests.proofs.boards.sixteen_leaders_and_laggers.Given as goal

abbrev pub ghosts-new : goal.ghosts-new
ghosts-new g a = record { run = failing }
