use Rattle.vl_run_laws.proofs.NodesFit.{nodes_fit}
use Rattle.vl_run_laws.proofs.nodes_fit_law.Goals as goal

pub returns : goal.returns
returns c = nodes_fit
