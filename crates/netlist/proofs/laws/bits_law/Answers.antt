use Rattle.netlist.proofs.BitsLaw.{bits_law}
use Rattle.netlist.proofs.laws.bits_law.Goals as goal

pub returns : goal.returns
returns c = bits_law
