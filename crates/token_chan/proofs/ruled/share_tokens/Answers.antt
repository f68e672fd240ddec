use Rattle.std.proofs.Common.{◌∙◌, rules}
use Rattle.token_chan.specs.RuledEnds.{giver_state, taker_state}
use Rattle.token_chan.proofs.TokenSteps.{idles, merges, parts, learns_all}
use Rattle.crossbeam_queue.specs.Passes.{view}
use Rattle.token_chan.specs.TokenRule.{joined_view}
use Rattle.token_chan.proofs.Closes.{tokens_stand}
use Rattle.token_chan.proofs.ruled.share_tokens.Goals as goal

pub another-idle-requires-clause-rule : goal.another-idle-requires-clause-rule
another-idle-requires-clause-rule g c = idles _ _

pub absorb-requires-clause-rule : goal.absorb-requires-clause-rule
absorb-requires-clause-rule g c = merges _ _ _ _ (search rules) (search rules)

pub learn_as-requires-clause-rule : goal.learn_as-requires-clause-rule
learn_as-requires-clause-rule g c = learns_all _ _ (search rules) (search rules)

pub another-taker_pass-requires-clause-rule : goal.another-taker_pass-requires-clause-rule
another-taker_pass-requires-clause-rule g c = parts _ _ (search rules) (search rules)

pub returns-clause-stand : goal.returns-clause-stand
returns-clause-stand g c =
    let kept = c.another-idle.ensures.rule.0 in let theirs = c.replace-theirs.ensures.value in let joined = c.absorb.ensures.rule in
    tokens_stand (giver_state c.args.give.now) (taker_state c.args.take.now) _
    (joined ∙ (λ i. joined_view (kept i).name (kept i).given (view (theirs i)).taken (view (theirs i)).knows_given (kept i).knows_taken))
    c.learn_as.ensures.rule
