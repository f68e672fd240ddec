use Rattle.vl_pre.proofs.SelectLaws.{selects_clean_text}
use Rattle.vl_pre.proofs.condition_law.Goals as goal

pub returns : goal.returns
returns c = selects_clean_text
