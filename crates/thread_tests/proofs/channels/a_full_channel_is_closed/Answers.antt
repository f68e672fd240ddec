use Rattle.std.proofs.Common.{sym, ap, ◌∙◌, ◌++◌, ◌∷◌, [], List, ℕ, ◌<◌, length, get_or, subst}
use Rattle.named_run.specs.Named.{token_of, HasShape}
use Rattle.named_run.specs.declared.token.Token.{Token}
use Rattle.thread_tests.specs.Runs.{quiet}
use Rattle.thread_tests.proofs.Bare.{token_is, one_shaped}
use Rattle.thread_tests.proofs.channels.a_full_channel_is_closed.Goals as goal

pub pair-requires-clause-first : goal.pair-requires-clause-first
pair-requires-clause-first g c = c.bare-2.ensures ∙ token_is 0
    ∙ ap (token_of quiet 0) (sym (ap (λ (t : Token). t.cycle) c.bare-2.ensures))

pub pair-requires-clause-blanks : goal.pair-requires-clause-blanks
pair-requires-clause-blanks g c =
    let made = c.in_ok-push.ensures.items ∙ (λ i. c.new-blanks.ensures.items i ++ c.bare.ensures i ∷ []) in
    subst (λ (xs : List Token). (k : ℕ) (d : Token) → k < length xs → HasShape quiet 0 (get_or xs k d)) (sym made) one_shaped
