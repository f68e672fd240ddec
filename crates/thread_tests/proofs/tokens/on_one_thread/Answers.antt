use Rattle.std.proofs.Common.{ℕ, List, ◌<◌, length, get_or, sym, ap, ◌∙◌, subst, arith}
use Rattle.named_run.specs.Named.{token_of, HasShape}
use Rattle.named_run.specs.declared.token.Token.{Token}
use Rattle.token_chan.specs.RuledEnds.{taker_state}
use Rattle.thread_tests.specs.Runs.{wide}
use Rattle.thread_tests.proofs.Wide.{wide_is, own_cycle, wide_shaped}
use Rattle.thread_tests.proofs.tokens.on_one_thread.Goals as goal

pub ruled_pair-requires-clause-first : goal.ruled_pair-requires-clause-first
ruled_pair-requires-clause-first g c = own_cycle c.in_ok-first.first 0 c.in_ok-first.ensures

pub ruled_pair-requires-clause-blanks : goal.ruled_pair-requires-clause-blanks
ruled_pair-requires-clause-blanks g c =
    subst (λ (xs : List Token). (k : ℕ) (d : Token) → k < length xs → HasShape wide 0 (get_or xs k d)) (sym c.in-Ok.ensures.items)
    (wide_shaped c.in_ok-blank.blank c.in_ok-blank.ensures)

pub loop-round-init : goal.loop-round-init
loop-round-init g c =
    let new = c.in_ok-give.ensures in let given = new.given.0 in
    let cycle = ap (λ (t : Token). t.cycle) (c.in_ok-first.ensures ∙ wide_is 0) in
    (new.name, omega (arith, given, cycle), sym new.ends.name ∙ new.name)

pub give_again-requires-clause-token : goal.give_again-requires-clause-token
give_again-requires-clause-token g c =
    let name = c.loop-round.invariant.2 in
    own_cycle c.in-Some.token (taker_state c.loop-round.take).taken
    (c.in-Some.ensures.0 ∙ (λ i. token_of (name i).run (name i).channel (taker_state c.loop-round.take).taken))
