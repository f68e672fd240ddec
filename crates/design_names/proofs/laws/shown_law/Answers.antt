use Rattle.design_names.proofs.ShownLaws.{all_shown, order_there}
use Rattle.design_names.proofs.laws.shown_law.Goals as goal

pub returns-clause-variables : goal.returns-clause-variables
returns-clause-variables c = all_shown

pub returns-clause-there : goal.returns-clause-there
returns-clause-there c = order_there
