use Rattle.vl_run_laws.proofs.Running.{running}
use Rattle.vl_run_laws.proofs.running_law.Goals as goal

pub returns : goal.returns
returns c = running
