use Rattle.vl_run_laws.proofs.Settling.{settling}
use Rattle.vl_run_laws.proofs.settling_law.Goals as goal

pub returns : goal.returns
returns c = settling
