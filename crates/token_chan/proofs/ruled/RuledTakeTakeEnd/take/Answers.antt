use Rattle.token_chan.proofs.TokenSteps.{receives, learns_empty}
use Rattle.token_chan.proofs.ruled.RuledTakeTakeEnd.take.Goals as goal

pub pop_as-requires-clause-rule : goal.pop_as-requires-clause-rule
pop_as-requires-clause-rule g c = let e = c.args.self.now in (receives _ _ e.takes, learns_empty _ _ e.takes)
