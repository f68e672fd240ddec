use Rattle.message_format.proofs.ElementLaws.{elements_law}
use Rattle.message_format.proofs.laws.format_law.Goals as goal

pub returns : goal.returns
returns c = elements_law
