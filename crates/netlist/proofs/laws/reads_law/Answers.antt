use Rattle.netlist.proofs.ReadsLaw.{reads_law, operands_law}
use Rattle.netlist.proofs.laws.reads_law.Goals as goal

pub returns : goal.returns
returns c = record { reads = reads_law; lower = operands_law }
