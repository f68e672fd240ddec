use Rattle.vl_nodes.proofs.Added.{insert_made}
use Rattle.vl_nodes.proofs.nodes.Nodes.insert.Goals as goal

pub returns-clause-made : goal.returns-clause-made
returns-clause-made c = insert_made c.args.self.now c.add.new.self c.args.of c.args.place c.args.part c.args.signed c.add.result c.add.ensures.node c.add.ensures.added
