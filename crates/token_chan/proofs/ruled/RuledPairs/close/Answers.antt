use Rattle.std.proofs.Common.{ap, ◌∙◌, ◌++◌, sym, subst, get_or}
use Rattle.crossbeam_queue.specs.Passes.{view}
use Rattle.named_run.specs.Named.{HasShape}
use Rattle.token_chan.specs.RuledEnds.{giver_state, taker_state}
use Rattle.token_chan.specs.declared.view.TokenView.{TokenView}
use Rattle.token_chan.specs.declared.view.ReturnView.{ReturnView}
use Rattle.token_chan.proofs.TokenSteps.{merges, receives, learns_count}
use Rattle.token_chan.proofs.ReturnSteps as returns
use Rattle.token_chan.proofs.Closes.{oldest_is, returns_stand_so, all_few, room_for}
use Rattle.token_chan.proofs.Shapes.{shape_at, depth_at}
use Rattle.token_chan.proofs.ruled.RuledPairs.close.Goals as goal

pub absorb-requires-clause-rule : goal.absorb-requires-clause-rule
absorb-requires-clause-rule g c = merges _ _ _ _ c.args.give.gives c.args.take.takes

pub pop_as-oldest-requires-clause-rule : goal.pop_as-oldest-requires-clause-rule
pop_as-oldest-requires-clause-rule g c = let e = c.absorb.ensures.rule in
    (receives _ _ (ap (λ (y : TokenView). y.takes) e), learns_count _ _ (ap (λ (y : TokenView). y.gives) e) (ap (λ (y : TokenView). y.takes) e))

pub absorb-requires-2-clause-rule : goal.absorb-requires-2-clause-rule
absorb-requires-2-clause-rule g c = returns.merges _ _ _ _ c.args.give.reuses c.args.take.hands_back

pub learn_as-requires-clause-rule : goal.learn_as-requires-clause-rule
learn_as-requires-clause-rule g c = let e = c.absorb-2.ensures.rule in
    returns.learns_all _ _ (ap (λ (y : ReturnView). y.reuses) e) (ap (λ (y : ReturnView). y.hands_back) e)

pub move_returns-requires-clause-room : goal.move_returns-requires-clause-room
move_returns-requires-clause-room g c =
    let give = c.args.give in let take = c.args.take in let is = c.absorb-2.ensures.rule in let seen = c.learn_as.ensures.queue.1 ∙ is in
    room_for (giver_state give) (taker_state take) (view c.learn_as.new.pass) _ _ (ap (λ (y : ReturnView). y.reused) seen) (ap (λ (y : ReturnView). y.returned) seen)
    (returns_stand_so (giver_state give) (taker_state take) _ _ is (depth_at _ _ give.named) c.learn_as.ensures.rule) c.requires.room

pub returns-clause-tokens : goal.returns-clause-tokens
returns-clause-tokens g c =
    let give = c.args.give in let take = c.args.take in let made = c.move_returns.ensures in
    let is = c.absorb-2.ensures.rule in let seen = c.learn_as.ensures.queue.1 ∙ is in
    let stand = returns_stand_so (giver_state give) (taker_state take) _ _ is (depth_at _ _ give.named) c.learn_as.ensures.rule in
    let every = ap (λ (y : ReturnView). y.reused ++ made.moved.moved) (sym seen) ∙ made.moved.reused ∙ made.all ∙ ap (λ (y : ReturnView). y.returned) seen in
    record {
      oldest = oldest_is (giver_state give) (taker_state take) _ _ c.pop_as-oldest.result c.absorb.ensures.rule c.requires.ends.name c.pop_as-oldest.ensures.rule;
      waiting = made.moved.moved;
      behind = made.moved.behind;
      all = every;
      few = all_few (giver_state give) (taker_state take) _ stand every;
      shaped = λ k d l. shape_at _ _ _ give.named
          (subst (λ (y : ReturnView). HasShape y.name.run y.name.channel (get_or made.moved.moved k d)) seen (made.moved.shaped k d l));
    }
