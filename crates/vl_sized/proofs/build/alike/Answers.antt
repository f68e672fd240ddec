use Rattle.vl_value.specs.Meaning as m
use Rattle.vl_sized.specs.Moments.{on_two}
use Rattle.vl_sized.specs.Plain.{sense_of}
use Rattle.vl_sized.proofs.Senses.{same_sense}
use Rattle.vl_sized.proofs.build.alike.Goals as goal

pub returns : goal.returns
returns c = λ ns. same_sense ns c.joint-size.result c.in_ok-node.node (on_two (m.operated m.alike c.args.operator) (sense_of ns c.args.a) (sense_of ns c.args.b))
    (λ t. c.joint-size.ensures.width) (λ t. c.joint-size.ensures.signed) (λ t. c.in_ok-node.ensures.value ns t)
    (c.in_ok-node.ensures.reads ns)
