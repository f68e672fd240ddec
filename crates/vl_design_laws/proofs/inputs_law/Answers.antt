use Rattle.vl_design_laws.proofs.Inputs.{inputs_law}
use Rattle.vl_design_laws.proofs.inputs_law.Goals as goal

pub returns : goal.returns
returns c = inputs_law
