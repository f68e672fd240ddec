use Rattle.netlist.proofs.PartsLaw.{parts_law}
use Rattle.netlist.proofs.laws.parts_law.Goals as goal

pub returns : goal.returns
returns c = parts_law
