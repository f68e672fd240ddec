use Rattle.vl_nodes.proofs.Added.{binary_made}
use Rattle.vl_nodes.proofs.nodes.Nodes.binary.Goals as goal

pub returns-clause-made : goal.returns-clause-made
returns-clause-made c = binary_made c.args.self.now c.add.new.self c.args.operator c.args.signed c.args.left c.args.right c.binary_width-width.result c.add.result c.binary_width-width.ensures c.requires c.add.ensures.node c.add.ensures.added
