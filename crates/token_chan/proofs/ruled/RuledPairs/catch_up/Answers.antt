use Rattle.token_chan.proofs.Closes.{ends_again, tokens_again}
use Rattle.token_chan.proofs.ruled.RuledPairs.catch_up.Goals as goal

pub share_tokens-requires : goal.share_tokens-requires
share_tokens-requires g c = ends_again _ _ _ _ _ _ c.share_returns.ensures.give c.share_returns.ensures.take c.requires

pub returns-clause-tokens : goal.returns-clause-tokens
returns-clause-tokens g c = tokens_again _ _ _ _ _ _ c.share_returns.ensures.give c.share_returns.ensures.take c.share_tokens.ensures.stand
