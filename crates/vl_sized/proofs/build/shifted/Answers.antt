use Rattle.std.proofs.Common.{◌∙◌, refl}
use Rattle.vl_value.specs.Meaning as m
use Rattle.vl_sized.specs.Moments.{on_two}
use Rattle.vl_sized.specs.Nodes.{at_of}
use Rattle.vl_sized.specs.Plain.{sense_of, meaning_of}
use Rattle.vl_sized.proofs.Senses.{same_sense, shift_is}
use Rattle.vl_sized.proofs.build.shifted.Goals as goal

pub returns : goal.returns
returns c = λ ns. same_sense ns c.args.a.size c.in_ok-node.node (on_two (m.operated m.shifted c.args.operator) (sense_of ns c.args.a) (sense_of ns c.args.b))
    (λ t. refl) (λ t. refl)
    (λ t. c.in_ok-node.ensures.value ns t
    ∙ (λ i w g. shift_is c.args.operator c.requires g w (at_of ns t c.args.a.node w g) (m.own (meaning_of ns t c.args.b)) i))
    (c.in_ok-node.ensures.reads ns)
