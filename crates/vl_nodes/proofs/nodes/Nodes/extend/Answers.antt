use Rattle.vl_nodes.proofs.Added.{extended_made}
use Rattle.vl_nodes.proofs.nodes.Nodes.extend.Goals as goal

pub returns-clause-made : goal.returns-clause-made
returns-clause-made c = extended_made c.args.self.now c.add.new.self c.args.of c.args.signed c.args.width c.add.result c.requires.less c.requires.wide c.add.ensures.node c.add.ensures.added
