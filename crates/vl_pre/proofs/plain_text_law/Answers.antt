use Rattle.vl_pre.proofs.PlainLaws.{plain_comes_through}
use Rattle.vl_pre.proofs.plain_text_law.Goals as goal

pub returns : goal.returns
returns c = plain_comes_through
