use Rattle.std.proofs.Common.{sym, ap, ◌∙◌, arith}
use Rattle.token_chan.specs.declared.view.TokenView.{TokenView}
use Rattle.token_chan.proofs.TokenSteps.{begins, starts, learns_count}
use Rattle.token_chan.proofs.open.open_tokens.Goals as goal

pub ruled-requires-clause-rule : goal.ruled-requires-clause-rule
ruled-requires-clause-rule g c = begins

pub push_as-requires-clause-rule : goal.push_as-requires-clause-rule
push_as-requires-clause-rule g c =
    let made = c.in_ok-tokens.ensures in let deep = c.requires.depth in let cap = made.0 in let two = deep.0 in (
      starts _ _ _ _ _ made.3 (omega (arith, cap, two)) (deep.1 ∙ sym cap) c.requires.first,
      learns_count _ _ (ap (λ (y : TokenView). y.gives) made.3) (ap (λ (y : TokenView). y.takes) made.3),
    )

pub unreachable-requires : goal.unreachable-requires
unreachable-requires g c =
    let made = c.in_ok-tokens.ensures in let two = c.requires.depth.0 in let cap = made.0 in
    let held = c.in-Err.ensures.rule.2 in let many = held.1 in let count = held.2 in
    let given = ap (λ (y : TokenView). y.given) made.3 in let taken = ap (λ (y : TokenView). y.taken) made.3 in
    omega (arith, many, count, given, taken, cap, two)
