use Rattle.vl_nodes.proofs.Added.{unary_made}
use Rattle.vl_nodes.proofs.nodes.Nodes.unary.Goals as goal

pub returns-clause-made : goal.returns-clause-made
returns-clause-made c = unary_made c.args.self.now c.add.new.self c.args.operator c.args.of c.unary_width-width.result c.add.result c.unary_width-width.ensures c.add.ensures.node c.add.ensures.added
