use Rattle.comb_order.proofs.Exists.{exists}
use Rattle.comb_order.proofs.laws.existence_law.Goals as goal

pub returns : goal.returns
returns c = exists
