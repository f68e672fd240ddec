use Rattle.vl_nodes.proofs.Added.{bits_made}
use Rattle.vl_nodes.proofs.nodes.Nodes.bits.Goals as goal

pub returns-clause-made : goal.returns-clause-made
returns-clause-made c = bits_made c.args.self.now c.add.new.self c.args.range c.add.result c.requires c.add.ensures.node c.add.ensures.added
