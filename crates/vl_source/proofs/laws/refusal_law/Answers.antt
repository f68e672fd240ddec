use Rattle.vl_source.proofs.Refusals.{refusal_law}
use Rattle.vl_source.proofs.laws.refusal_law.Goals as goal

pub returns : goal.returns
returns c = refusal_law
