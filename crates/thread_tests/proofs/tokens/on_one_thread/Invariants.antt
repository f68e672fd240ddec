use Rattle.std.proofs.Common.{◌≡◌, ◌+◌}
use Rattle.token_chan.specs.Names.{Name}
use Rattle.token_chan.specs.RuledEnds.{giver_state, taker_state}
use Rattle.thread_tests.specs.Runs.{wide}
use Rattle.thread_tests.proofs.tokens.on_one_thread.Given as goal

abbrev pub ghosts-ruled_pair : goal.ghosts-ruled_pair
ghosts-ruled_pair g a = record { run = wide }

abbrev wide_name : Name
wide_name = record { run = wide; channel = 0; depth = 2 }

abbrev pub invariant-loop-round : goal.invariant-loop-round
invariant-loop-round g l = ((giver_state l.give).name ≡ wide_name) × ((giver_state l.give).given ≡ l.round + 1)
    × ((taker_state l.take).name ≡ wide_name)
