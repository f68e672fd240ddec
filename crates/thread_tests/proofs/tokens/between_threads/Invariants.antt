use Rattle.thread_tests.specs.Runs.{quiet}
use Rattle.thread_tests.proofs.tokens.between_threads.Given as goal

abbrev pub ghosts-ruled_pair : goal.ghosts-ruled_pair
ghosts-ruled_pair g a = record { run = quiet }
