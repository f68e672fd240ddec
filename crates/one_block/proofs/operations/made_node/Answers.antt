use Rattle.one_block.proofs.OfOperators.{constant_made}
use Rattle.one_block.proofs.OldNodes.{constant_node, input_node_made, register_node_made, sum_node, equal_node, not_node, and_node, cut_node}
use Rattle.one_block.proofs.operations.made_node.Goals as goal

pub returns-in-Constant : goal.returns-in-Constant
returns-in-Constant c = λ p at led.
    constant_node p _ _ _ c.args.nodes.now c.args.made.now c.args.node.now at led c.requires.fits c.add.new.self
    c.in-Constant.value c.add.result c.in-Constant.is
    (constant_made p c.args.nodes.now c.add.new.self c.in-Constant.value c.width_of.result c.add.result
    c.width_of.ensures.width c.width_of.ensures.below c.add.ensures.node c.add.ensures.added)

pub returns-in-Input : goal.returns-in-Input
returns-in-Input c = λ p at led.
    rw c.input.ensures
    (input_node_made p _ _ _ c.args.nodes.now c.args.made.now c.args.node.now at led c.requires.fits c.in-Input.input c.in-Input.is)

pub returns-in-Register : goal.returns-in-Register
returns-in-Register c = λ p at led.
    rw c.register.ensures
    (register_node_made p _ _ _ c.args.nodes.now c.args.made.now c.args.node.now at led c.requires.fits c.in-Register.register
    c.in-Register.is)

pub returns-in-Sum : goal.returns-in-Sum
returns-in-Sum c = λ p at led.
    sum_node p _ _ _ c.args.nodes.now c.args.made.now c.args.node.now at led c.requires.fits c.sum.new.nodes c.in-Sum.left
    c.in-Sum.right c.in-Sum.width c.sum.result c.in-Sum.is (λ u v wide. c.sum.ensures wide p u v)

pub returns-in-Equal : goal.returns-in-Equal
returns-in-Equal c = λ p at led.
    equal_node p _ _ _ c.args.nodes.now c.args.made.now c.args.node.now at led c.requires.fits c.equality.new.nodes
    c.in-Equal.left c.in-Equal.right c.equality.result c.in-Equal.is (λ u v. c.equality.ensures p u v)

pub returns-in-Not : goal.returns-in-Not
returns-in-Not c = λ p at led.
    not_node p _ _ _ c.args.nodes.now c.args.made.now c.args.node.now at led c.requires.fits c.negation.new.nodes c.in-Not.of
    c.negation.result c.in-Not.is (λ v. c.negation.ensures p v)

pub returns-in-And : goal.returns-in-And
returns-in-And c = λ p at led.
    and_node p _ _ _ c.args.nodes.now c.args.made.now c.args.node.now at led c.requires.fits c.conjunction.new.nodes
    c.in-And.left c.in-And.right c.conjunction.result c.in-And.is (λ u v. c.conjunction.ensures p u v)

pub returns-in-Cut : goal.returns-in-Cut
returns-in-Cut c = λ p at led.
    cut_node p _ _ _ c.args.nodes.now c.args.made.now c.args.node.now at led c.requires.fits c.fitted.new.nodes c.in-Cut.of
    c.in-Cut.width c.fitted.result c.in-Cut.is (λ v. c.fitted.ensures p v)
