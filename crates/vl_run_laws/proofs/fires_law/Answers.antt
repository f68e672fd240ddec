use Rattle.vl_run_laws.proofs.Fires.{fires_same}
use Rattle.vl_run_laws.proofs.fires_law.Goals as goal

pub returns : goal.returns
returns c = fires_same
