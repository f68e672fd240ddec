use Rattle.one_block.proofs.OfOperators.{not_made}
use Rattle.one_block.proofs.operations.negation.Goals as goal

pub returns : goal.returns
returns c = λ p v h. not_made p c.args.nodes.now c.add.new.self c.args.of v c.add.result h c.add.ensures.node c.add.ensures.added
