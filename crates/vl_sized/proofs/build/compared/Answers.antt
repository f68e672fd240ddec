use Rattle.std.proofs.Common.{◌∙◌}
use Rattle.std.specs.Prelude.{◌&&◌, max}
use Rattle.vl_value.specs.Meaning as m
use Rattle.vl_sized.specs.Moments.{on_two}
use Rattle.vl_sized.specs.Plain.{sense_of}
use Rattle.vl_sized.proofs.Senses.{same_sense, compared_at}
use Rattle.vl_sized.proofs.build.compared.Goals as goal

pub returns : goal.returns
returns c = λ ns. same_sense ns c.bit.result c.in_ok-node.node (on_two (m.operated m.compared c.args.operator) (sense_of ns c.args.a) (sense_of ns c.args.b))
    (λ t. c.bit.ensures.width) (λ t. c.bit.ensures.signed)
    (λ t. c.in_ok-node.ensures.value ns t
    ∙ compared_at ns t c.args.operator c.args.a.node c.args.b.node c.joint-left.result c.joint-left.result (max c.args.a.size.width c.args.b.size.width)
    (c.args.a.size.signed && c.args.b.size.signed) c.requires c.joint-left.ensures.width c.joint-left.ensures.signed)
    (c.in_ok-node.ensures.reads ns)
