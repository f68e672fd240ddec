use Rattle.vl_nodes.proofs.Added.{choice_made}
use Rattle.vl_nodes.proofs.nodes.Nodes.choose.Goals as goal

pub returns-clause-made : goal.returns-clause-made
returns-clause-made c = choice_made c.args.self.now c.add.new.self c.args.condition c.args.yes c.args.no c.add.result c.requires c.add.ensures.node c.add.ensures.added
