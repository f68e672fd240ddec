use Rattle.std.proofs.Common.{◌≡◌, ◌+◌}
use Rattle.token_chan.specs.RuledEnds.{giver_state}
use Rattle.thread_tests.proofs.tokens.give_all.Given as goal

abbrev pub invariant-loop-given : goal.invariant-loop-given
invariant-loop-given g l = ((giver_state l.give).name ≡ (giver_state l.fn.give).name)
    × ((giver_state l.give).given ≡ l.given + 1)
