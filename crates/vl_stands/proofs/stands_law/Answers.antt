use Rattle.vl_stands.proofs.Stands.{same_stands}
use Rattle.vl_stands.proofs.stands_law.Goals as goal

pub returns : goal.returns
returns c = same_stands
