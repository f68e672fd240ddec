use Rattle.one_block.proofs.OfOperators.{sum_made}
use Rattle.one_block.proofs.operations.sum.Goals as goal

pub returns : goal.returns
returns c = λ wide p a b ha hb.
    sum_made p c.args.nodes.now c.fitted.new.nodes c.fitted-2.new.nodes c.binary.new.nodes c.args.left c.args.right
    c.in_ok-left.left c.in_ok-right.right a b c.args.width c.binary.result wide ha hb
    (λ v h. c.in_ok-left.ensures p v wide h) (λ v h. c.in_ok-right.ensures p v wide h) c.binary.ensures.node c.binary.ensures.added
