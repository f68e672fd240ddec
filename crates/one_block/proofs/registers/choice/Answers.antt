use Rattle.one_block.proofs.OfOperators.{choice_made}
use Rattle.one_block.proofs.registers.choice.Goals as goal

pub returns : goal.returns
returns c = λ p a b d hc hv ho.
    choice_made p c.args.nodes.now c.fitted.new.nodes c.add.new.self c.args.condition c.args.value c.in_ok-value.value c.args.other
    a b d c.add.result hc hv ho (λ v h. c.in_ok-value.ensures p v ho.is_width h) c.add.ensures.node c.add.ensures.added
