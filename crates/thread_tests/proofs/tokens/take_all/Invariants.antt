use Rattle.std.proofs.Common.{◌≡◌, ◌≤◌}
use Rattle.token_chan.specs.RuledEnds.{taker_state}
use Rattle.thread_tests.proofs.tokens.take_all.Given as goal

abbrev pub invariant-loop : goal.invariant-loop
invariant-loop g l = ((taker_state l.take).name ≡ (taker_state l.fn.take).name) × (l.next ≤ l.count)
