use Rattle.netlist.proofs.SettlesOnce.{settles_once}
use Rattle.netlist.proofs.laws.settles_law.Goals as goal

pub returns : goal.returns
returns c = settles_once
