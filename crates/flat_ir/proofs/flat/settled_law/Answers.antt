use Rattle.flat_ir.proofs.SettledLaws.{settles_once}
use Rattle.flat_ir.proofs.flat.settled_law.Goals as goal

pub returns : goal.returns
returns c = settles_once
