use Rattle.std.proofs.Common.{◌∙◌, false}
use Rattle.vl_value.specs.Meaning as m
use Rattle.vl_sized.specs.Moments.{constant_sense}
use Rattle.vl_sized.proofs.select.nothing.Goals as goal

pub returns : goal.returns
returns c = λ ns. c.number.ensures ns ∙ (λ i. constant_sense (m.operand (c.of.ensures.width i) false (c.of.ensures.value i)))
