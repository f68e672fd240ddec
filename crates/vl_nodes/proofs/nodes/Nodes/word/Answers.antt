use Rattle.vl_nodes.proofs.Added.{word_made}
use Rattle.vl_nodes.proofs.nodes.Nodes.word.Goals as goal

pub returns-clause-made : goal.returns-clause-made
returns-clause-made c = word_made c.args.self.now c.add.new.self c.args.memory c.args.width c.args.index c.args.signed c.add.result c.requires c.add.ensures.node c.add.ensures.added
