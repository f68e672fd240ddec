use Rattle.vl_nodes.proofs.Added.{cut_made}
use Rattle.vl_nodes.proofs.nodes.Nodes.cut.Goals as goal

pub returns-clause-made : goal.returns-clause-made
returns-clause-made c = cut_made c.args.self.now c.add.new.self c.args.of c.args.width c.add.result c.requires.some c.requires.less c.add.ensures.node c.add.ensures.added
