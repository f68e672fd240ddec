use Rattle.std.proofs.Common.{ap, ◌∙◌, sym, subst, false}
use Rattle.std.proofs.lemmas.Result.{on_ok_weaker}
use Rattle.message_format.specs.Pieces.{AreWhole, elements_of}
use Rattle.message_format.proofs.DraftLaws.{added_said, added_whole}
use Rattle.message_format.proofs.piece.Draft.add_piece.Goals as goal

pub returns-clause-said : goal.returns-clause-said
returns-clause-said c = on_ok_weaker c.push_piece.result (λ is. added_said _ _ c.args.piece _ _
    (ap (λ d. elements_of d.pieces) c.self.view_is ∙ c.in_ok-end_text.ensures.said)
    (ap (λ d. d.text) c.self.view_is ∙ c.in_ok-end_text.ensures.empty) is) c.push_piece.ensures

pub returns-clause-whole : goal.returns-clause-whole
returns-clause-whole c = on_ok_weaker c.push_piece.result (λ is. added_whole _ _ c.args.piece
    (subst (λ d. AreWhole false d.pieces) (sym c.self.view_is) c.in_ok-end_text.ensures.whole) c.requires.other is)
    c.push_piece.ensures
