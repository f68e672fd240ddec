use Rattle.vl_run_laws.proofs.Fitting.{fitting}
use Rattle.vl_run_laws.proofs.fitting_law.Goals as goal

pub returns : goal.returns
returns c = fitting
