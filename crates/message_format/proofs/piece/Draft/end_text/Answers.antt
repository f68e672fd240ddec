use Rattle.std.proofs.Common.{◌≡◌, OnOk, sym, subst, rules}
use Rattle.std.proofs.lemmas.Result.{on_ok_weaker}
use Rattle.message_format.specs.Pieces.{elements_of}
use Rattle.message_format.specs.Draft.{IsDraft, said}
use Rattle.message_format.proofs.DraftLaws.{ended_said, ended_whole}
use Rattle.message_format.proofs.piece.Draft.end_text.Goals as goal

pub returns-clause-said : goal.returns-clause-said
returns-clause-said c =
    subst (λ d. OnOk c.push_piece.result (elements_of c.push_piece.new.pieces.items ≡ said d)) c.self.view_is
    (on_ok_weaker c.push_piece.result (λ is. ended_said _ _ c.self.inside.text.items _ (search rules) is)
    c.push_piece.ensures)

pub returns-clause-whole : goal.returns-clause-whole
returns-clause-whole c = on_ok_weaker c.push_piece.result (λ is. ended_whole _ _ c.self.inside.text.items _
    (subst IsDraft (sym c.self.view_is) c.requires) (search rules) (search rules) is) c.push_piece.ensures
