use Rattle.vl_tree.specs.Token as k
use Rattle.vl_read.proofs.TokenRules.{stuck_kind_at}
use Rattle.vl_read.proofs.cursor.Cursor.expect_mark.Goals as goal

pub returns-in-None-clause-reads : goal.returns-in-None-clause-reads
returns-in-None-clause-reads c = λ d. rw c.left.ensures (stuck_kind_at (k.mark c.args.wanted) d _ c.in-None.ensures.reads)
