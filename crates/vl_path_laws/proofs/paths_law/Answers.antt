use Rattle.vl_path_laws.proofs.Places.{paths_law}
use Rattle.vl_path_laws.proofs.paths_law.Goals as goal

pub returns : goal.returns
returns c = paths_law
