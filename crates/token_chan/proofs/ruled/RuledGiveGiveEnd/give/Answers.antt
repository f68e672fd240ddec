use Rattle.std.proofs.Common.{sym, ap, ◌∙◌}
use Rattle.token_chan.proofs.TokenSteps.{sends, learns_full}
use Rattle.token_chan.proofs.ruled.RuledGiveGiveEnd.give.Goals as goal

pub push_as-requires-clause-rule : goal.push_as-requires-clause-rule
push_as-requires-clause-rule g c = let e = c.args.self.now in
    (sends _ _ _ _ e.gives (e.deep ∙ ap (λ q. q.cap) (sym c.deref.ensures)) c.requires, learns_full _ _ e.gives)
