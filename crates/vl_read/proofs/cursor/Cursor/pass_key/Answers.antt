use Rattle.vl_tree.specs.Token as k
use Rattle.vl_read.proofs.TokenRules.{stuck_kind}
use Rattle.vl_read.proofs.cursor.Cursor.pass_key.Goals as goal

pub returns-in-None-clause-reads : goal.returns-in-None-clause-reads
returns-in-None-clause-reads c = λ d. rw c.left.ensures (stuck_kind (k.key c.args.wanted) d _ c.in-None.ensures.reads)
