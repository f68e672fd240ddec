use Rattle.vl_nodes.proofs.Added.{concat_made}
use Rattle.vl_nodes.proofs.nodes.Nodes.concat.Goals as goal

pub returns-clause-made : goal.returns-clause-made
returns-clause-made c = concat_made c.args.self.now c.add.new.self c.args.left c.args.right c.add.result c.requires c.add.ensures.node c.add.ensures.added
