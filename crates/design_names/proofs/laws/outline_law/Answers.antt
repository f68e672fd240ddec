use Rattle.design_names.proofs.ShownLaws.{outline_fits}
use Rattle.design_names.proofs.laws.outline_law.Goals as goal

pub returns : goal.returns
returns c = outline_fits
