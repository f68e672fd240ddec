use Rattle.thread_tests.specs.Runs.{quiet}
use Rattle.thread_tests.proofs.channels.a_full_channel_is_closed.Given as goal

abbrev pub ghosts-pair : goal.ghosts-pair
ghosts-pair g a = record { run = quiet }
