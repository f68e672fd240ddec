use Rattle.netlist.proofs.ValuesLaw.{values_law}
use Rattle.netlist.proofs.laws.values_law.Goals as goal

pub returns : goal.returns
returns c = values_law
