use Rattle.vl_nodes.proofs.Added.{number_made}
use Rattle.vl_nodes.proofs.nodes.Nodes.number.Goals as goal

pub returns-clause-made : goal.returns-clause-made
returns-clause-made c = number_made c.args.self.now c.add.new.self c.args.width c.args.value c.add.result c.requires.wide c.requires.below c.add.ensures.node c.add.ensures.added
