use Rattle.std.proofs.Common.{sym, ◌∙◌}
use Rattle.named_run.specs.Named.{token_of}
use Rattle.thread_tests.proofs.Bare.{token_is}
use Rattle.thread_tests.proofs.channels.give_next.Goals as goal

pub give-requires : goal.give-requires
give-requires g c = c.bare.ensures ∙ token_is c.args.cycle
    ∙ (λ i. token_of (sym c.requires.name i).run (sym c.requires.name i).channel (sym c.requires.next i))
