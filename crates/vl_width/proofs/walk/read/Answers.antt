use Rattle.vl_width.proofs.Walks.{nonempty}
use Rattle.vl_width.proofs.walk.read.Goals as goal

pub returns-then-not-is_empty : goal.returns-then-not-is_empty
returns-then-not-is_empty g c =
    nonempty (g.N.Names.sight c.args.names.now c.args.name.now.text) c.args.selects.now c.is_empty.result c.is_empty.ensures c.if-not-is_empty.true
