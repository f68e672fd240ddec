use Rattle.std.proofs.Common.{sym, ap, ◌∙◌}
use Rattle.token_chan.proofs.ReturnSteps.{sends, learns_no_room}
use Rattle.token_chan.proofs.Shapes.{shape_back, depth_at}
use Rattle.token_chan.proofs.ruled.RuledTakeTakeEnd.hand_back.Goals as goal

pub push_as-requires-clause-rule : goal.push_as-requires-clause-rule
push_as-requires-clause-rule g c = let e = c.args.self.now in
    (sends _ _ _ _ e.hands_back (depth_at _ _ e.named ∙ e.deep ∙ ap (λ q. q.cap) (sym c.deref.ensures)) (shape_back _ _ _ e.named c.requires), learns_no_room _ _ e.hands_back)
