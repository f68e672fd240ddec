use Rattle.packed_rows.proofs.PackLaws.{last_some}
use Rattle.packed_rows.proofs.pack.put_last.Goals as goal

pub returns-then-held-gt0 : goal.returns-then-held-gt0
returns-then-held-gt0 c = last_some c.args.words.now c.args.held c.if-held-gt0.true c.requires.held.0 c.requires.size
