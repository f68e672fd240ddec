use Rattle.std.proofs.Common.{ℕ, List, [], ◌∷◌, ◌<◌, length, get_or, sym, ap, ◌∙◌, subst}
use Rattle.named_run.specs.Named.{token_of, HasShape}
use Rattle.named_run.specs.declared.token.Token.{Token}
use Rattle.thread_tests.specs.Runs.{quiet}
use Rattle.thread_tests.proofs.Bare.{token_is, three_shaped}
use Rattle.thread_tests.proofs.tokens.between_threads.Goals as goal

pub ruled_pair-requires-clause-first : goal.ruled_pair-requires-clause-first
ruled_pair-requires-clause-first g c = c.bare-first.ensures ∙ token_is 0
    ∙ ap (token_of quiet 0) (sym (ap (λ (t : Token). t.cycle) c.bare-first.ensures))

pub ruled_pair-requires-clause-blanks : goal.ruled_pair-requires-clause-blanks
ruled_pair-requires-clause-blanks g c =
    let made = c.in-Ok.ensures.items ∙ (λ i. c.bare.ensures i ∷ c.bare-2.ensures i ∷ c.bare-3.ensures i ∷ []) in
    subst (λ (xs : List Token). (k : ℕ) (d : Token) → k < length xs → HasShape quiet 0 (get_or xs k d)) (sym made) three_shaped
