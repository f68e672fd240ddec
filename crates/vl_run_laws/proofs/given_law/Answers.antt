use Rattle.vl_run_laws.proofs.Given.{given_same}
use Rattle.vl_run_laws.proofs.given_law.Goals as goal

pub returns : goal.returns
returns c = given_same
