use Rattle.token_chan.proofs.ReturnSteps.{takes, learns_all}
use Rattle.token_chan.proofs.ruled.move_returns.Goals as goal

pub pop_as-requires-clause-rule : goal.pop_as-requires-clause-rule
pop_as-requires-clause-rule g c = let inv = c.loop-token.invariant in (takes _ _ inv.1, learns_all _ _ inv.1 inv.2)
