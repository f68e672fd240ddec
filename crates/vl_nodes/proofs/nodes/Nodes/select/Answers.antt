use Rattle.vl_nodes.proofs.Added.{select_made}
use Rattle.vl_nodes.proofs.nodes.Nodes.select.Goals as goal

pub returns-clause-made : goal.returns-clause-made
returns-clause-made c = select_made c.args.self.now c.add.new.self c.args.of c.args.place c.args.signed c.args.width c.add.result c.requires c.add.ensures.node c.add.ensures.added
