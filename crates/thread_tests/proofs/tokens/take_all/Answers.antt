use Rattle.std.proofs.Common.{sym, ap}
use Rattle.token_chan.specs.Ends.{Taker}
use Rattle.token_chan.specs.RuledEnds.{taker_state}
use Rattle.thread_tests.proofs.Bare.{shaped_by}
use Rattle.thread_tests.proofs.tokens.take_all.Goals as goal

pub hand_back-requires : goal.hand_back-requires
hand_back-requires g c =
    let took = c.in-Some-take.ensures in
    shaped_by (taker_state c.take.new.self).name (taker_state c.loop.take).name c.in-Some-take.token (taker_state c.loop.take).taken
    (sym (ap (λ (y : Taker). y.name) took.1.2)) took.0
