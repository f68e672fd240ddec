use Rattle.std.proofs.Common.{arith}
use Rattle.one_block.proofs.OfOperators.{extended, cut, as_it_is}
use Rattle.one_block.proofs.operations.fitted.Goals as goal

pub returns-then-of-width : goal.returns-then-of-width
returns-then-of-width c = λ p v wide h.
    extended p c.args.nodes.now c.add.new.self c.args.of c.args.width v c.add.result wide c.if-of-width.true h
    c.add.ensures.node c.add.ensures.added

pub returns-then-width-of : goal.returns-then-width-of
returns-then-width-of c = λ p v wide h.
    cut p c.args.nodes.now c.add-then-width-of.new.self c.args.of c.args.width v c.add-then-width-of.result wide c.if-width-of.true h
    c.add-then-width-of.ensures.node c.add-then-width-of.ensures.added

pub returns-else-width-of : goal.returns-else-width-of
returns-else-width-of c = λ p v wide h.
    as_it_is p c.args.nodes.now c.args.of c.args.width v (omega (arith, c.if-of-width.false, c.if-width-of.false)) h
