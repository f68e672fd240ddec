use Rattle.design_names.proofs.StopLaws.{fired_low}
use Rattle.design_names.proofs.laws.stops_law.Goals as goal

pub returns : goal.returns
returns c = fired_low
