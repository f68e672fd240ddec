use Rattle.vl_run_laws.proofs.DrivenBits.{all_hold}
use Rattle.vl_run_laws.proofs.holds_law.Goals as goal

pub returns : goal.returns
returns c = all_hold
