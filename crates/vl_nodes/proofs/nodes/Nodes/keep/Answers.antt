use Rattle.vl_nodes.proofs.Added.{keep_made}
use Rattle.vl_nodes.proofs.nodes.Nodes.keep.Goals as goal

pub returns-clause-made : goal.returns-clause-made
returns-clause-made c = keep_made c.args.self.now c.add.new.self c.args.of c.args.also c.add.result c.add.ensures.node c.add.ensures.added
