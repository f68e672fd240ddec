use Rattle.comb_order.proofs.Exclusion.{excluded}
use Rattle.comb_order.proofs.laws.exclusion_law.Goals as goal

pub returns : goal.returns
returns c = excluded
