use Rattle.vl_run_laws.proofs.Parts.{parts_are}
use Rattle.vl_run_laws.proofs.parts_law.Goals as goal

pub returns : goal.returns
returns c = parts_are
