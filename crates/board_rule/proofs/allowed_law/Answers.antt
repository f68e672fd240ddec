use Rattle.board_rule.proofs.Allowed.{allowed_laws}
use Rattle.board_rule.proofs.allowed_law.Goals as goal

pub returns : goal.returns
returns g c = allowed_laws
