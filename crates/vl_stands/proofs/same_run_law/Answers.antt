use Rattle.vl_stands.proofs.Runs.{runs_are_same}
use Rattle.vl_stands.proofs.same_run_law.Goals as goal

pub returns : goal.returns
returns c = runs_are_same
