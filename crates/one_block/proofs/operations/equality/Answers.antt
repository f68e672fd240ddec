use Rattle.one_block.proofs.OfOperators.{equal_made, wider_width}
use Rattle.one_block.proofs.operations.equality.Goals as goal

pub returns : goal.returns
returns c = λ p a b ha hb.
    let wide = wider_width c.args.left.width c.args.right.width c.max-width.result c.max-width.ensures ha.is_width hb.is_width in
    equal_made p c.args.nodes.now c.fitted.new.nodes c.fitted-2.new.nodes c.binary.new.nodes c.args.left c.args.right
    c.in_ok-left.left c.in_ok-right.right a b c.max-width.result c.binary.result c.max-width.ensures ha hb
    (λ v h. c.in_ok-left.ensures p v wide h) (λ v h. c.in_ok-right.ensures p v wide h) c.binary.ensures.node c.binary.ensures.added
