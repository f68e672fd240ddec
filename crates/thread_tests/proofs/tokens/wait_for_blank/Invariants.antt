use Rattle.std.proofs.Common.{◌≡◌}
use Rattle.token_chan.specs.RuledEnds.{giver_state}
use Rattle.thread_tests.proofs.tokens.wait_for_blank.Given as goal

abbrev pub invariant-loop : goal.invariant-loop
invariant-loop g l = ((giver_state l.give).name ≡ (giver_state l.fn.give).name)
    × ((giver_state l.give).given ≡ (giver_state l.fn.give).given)
