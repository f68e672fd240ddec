use Rattle.std.proofs.Common.{◌∙◌}
use Rattle.vl_value.specs.Meaning as m
use Rattle.vl_sized.specs.Moments.{on_two}
use Rattle.vl_sized.specs.Plain.{sense_of}
use Rattle.vl_sized.proofs.Senses.{same_sense, judged_at}
use Rattle.vl_sized.proofs.build.conditions.Goals as goal

pub returns : goal.returns
returns c = λ ns. same_sense ns c.bit.result c.in_ok-node.node (on_two (m.operated m.judged c.args.operator) (sense_of ns c.args.a) (sense_of ns c.args.b))
    (λ t. c.bit.ensures.width) (λ t. c.bit.ensures.signed)
    (λ t. c.in_ok-node.ensures.value ns t ∙ judged_at ns t c.args.operator c.args.a.node c.args.a.size c.args.b c.requires)
    (c.in_ok-node.ensures.reads ns)
