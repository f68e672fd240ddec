use Rattle.one_block.proofs.OfOperators.{both_made}
use Rattle.one_block.proofs.operations.conjunction.Goals as goal

pub returns : goal.returns
returns c = λ p a b ha hb.
    both_made p c.args.nodes.now c.binary.new.nodes c.args.left c.args.right a b c.binary.result ha hb c.binary.ensures.node
    c.binary.ensures.added
