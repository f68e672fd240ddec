use Rattle.board_rule.proofs.Laws.{board_laws}
use Rattle.board_rule.proofs.board_law.Goals as goal

pub returns : goal.returns
returns c = board_laws
