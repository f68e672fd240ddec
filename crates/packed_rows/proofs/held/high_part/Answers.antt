use Rattle.packed_rows.proofs.PackLaws.{shifted_twice}
use Rattle.packed_rows.proofs.held.high_part.Goals as goal

pub returns : goal.returns
returns c = shifted_twice c.args.word c.args.count c.requires
