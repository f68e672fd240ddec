use Rattle.design_names.proofs.ClockLaws.{clocks_zero}
use Rattle.design_names.proofs.laws.clocks_law.Goals as goal

pub returns : goal.returns
returns c = clocks_zero
