use Rattle.std.proofs.Common.{sym, ◌∙◌}
use Rattle.named_run.specs.Named.{token_of}
use Rattle.thread_tests.proofs.Wide.{again}
use Rattle.thread_tests.proofs.tokens.give_again.Goals as goal

pub give-requires : goal.give-requires
give-requires g c = again c.args.token c.args.cycle c.requires.token
    ∙ (λ i. token_of (sym c.requires.name i).run (sym c.requires.name i).channel (sym c.requires.next i))
