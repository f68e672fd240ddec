use Rattle.vl_run_laws.proofs.DrivenBits.{driven_bits}
use Rattle.vl_run_laws.proofs.driven_bits_law.Goals as goal

pub returns : goal.returns
returns c = driven_bits
