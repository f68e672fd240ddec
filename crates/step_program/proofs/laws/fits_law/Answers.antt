use Rattle.step_program.proofs.ValuesFit.{value_fits}
use Rattle.step_program.proofs.laws.fits_law.Goals as goal

pub returns : goal.returns
returns c = λ words slots n m r h. value_fits words slots n m r.width r.calculation h.1
