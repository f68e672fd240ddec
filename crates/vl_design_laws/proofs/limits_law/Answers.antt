use Rattle.vl_design_laws.proofs.Limits.{limits_law}
use Rattle.vl_design_laws.proofs.limits_law.Goals as goal

pub returns : goal.returns
returns c = limits_law
