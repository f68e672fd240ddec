use Rattle.vl_pre.proofs.PlainLaws.{use_reads_as_body}
use Rattle.vl_pre.proofs.macro_use_law.Goals as goal

pub returns : goal.returns
returns c = use_reads_as_body
