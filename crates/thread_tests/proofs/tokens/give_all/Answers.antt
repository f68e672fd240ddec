use Rattle.std.proofs.Common.{sym, ◌∙◌}
use Rattle.named_run.specs.Named.{token_of}
use Rattle.thread_tests.proofs.Bare.{bare_again}
use Rattle.thread_tests.proofs.tokens.give_all.Goals as goal

pub wait_to_give-requires : goal.wait_to_give-requires
wait_to_give-requires g c =
    let at = c.loop-given.invariant in let name = c.wait_for_blank-token.ensures.name ∙ at.0 ∙ c.requires.name in
    bare_again c.wait_for_blank-token.result _ c.wait_for_blank-token.ensures.shape
    ∙ (λ i. token_of (sym name i).run (sym name i).channel (sym (c.wait_for_blank-token.ensures.given ∙ at.1) i))
