use Rattle.vl_process.proofs.Runs.{runs_are_one}
use Rattle.vl_process.proofs.one_run_law.Goals as goal

pub returns : goal.returns
returns c = runs_are_one
