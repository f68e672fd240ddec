use Rattle.dessert.proofs.SpotLaws.{spots_are_right}
use Rattle.dessert.proofs.sources.spot_law.Goals as goal

pub returns : goal.returns
returns c = spots_are_right
