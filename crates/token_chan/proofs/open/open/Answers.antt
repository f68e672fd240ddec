use Rattle.std.proofs.Common.{ap}
use Rattle.token_chan.specs.declared.view.TokenView.{TokenView}
use Rattle.token_chan.proofs.TokenSteps.{parts}
use Rattle.token_chan.proofs.ReturnSteps as returns
use Rattle.token_chan.proofs.open.open.Goals as goal

pub another-taker_pass-requires-clause-rule : goal.another-taker_pass-requires-clause-rule
another-taker_pass-requires-clause-rule g c = let e = c.in_ok-tokens.ensures.2 in
    parts _ _ (ap (λ (y : TokenView). y.gives) e) (ap (λ (y : TokenView). y.takes) e)

pub another-taker_return_pass-requires-clause-rule : goal.another-taker_return_pass-requires-clause-rule
another-taker_return_pass-requires-clause-rule g c = let is = c.in_ok-returns.ensures.rule in returns.parts _ _ is.reuses is.hands_back
