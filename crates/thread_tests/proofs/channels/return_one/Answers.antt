use Rattle.std.proofs.Common.{sym, ◌∙◌}
use Rattle.token_chan.specs.RuledEnds.{taker_state}
use Rattle.token_chan.specs.Names.{Name}
use Rattle.thread_tests.specs.Runs.{quiet}
use Rattle.thread_tests.proofs.Bare.{token_is, shaped_by}
use Rattle.thread_tests.proofs.channels.return_one.Goals as goal

abbrev quiet_name : Name
quiet_name = record { run = quiet; channel = 0; depth = 2 }

pub hand_back-requires : goal.hand_back-requires
hand_back-requires g c = shaped_by (taker_state c.args.take.now).name quiet_name c.bare.result c.args.cycle (sym c.requires.name)
    (c.bare.ensures ∙ token_is c.args.cycle)
