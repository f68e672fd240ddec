use Rattle.state_changes.proofs.UndoLaws.{undoes}
use Rattle.state_changes.proofs.laws.undo_law.Goals as goal

pub returns : goal.returns
returns c = undoes
