use Rattle.std.proofs.Common.{◌∙◌, ap, sym}
use Rattle.std.specs.Prelude.{Ok}
use Rattle.vl_value.specs.Meaning as m
use Rattle.vl_sized.specs.Moments.{on_two}
use Rattle.vl_sized.specs.Told.{joint}
use Rattle.vl_sized.specs.Plain.{sense_of, judged}
use Rattle.vl_sized.proofs.combine.operated.Goals as goal

pub returns-in_ok-binary-in-Ok-Ok : goal.returns-in_ok-binary-in-Ok-Ok
returns-in_ok-binary-in-Ok-Ok c = λ ns.
    ap Ok (c.in_ok-binary-in-Ok-Ok.ensures ns)
    ∙ sym (λ i. joint (on_two (m.binary_of c.args.operator)) (judged (sense_of ns) (c.in-Ok-Ok.is-0 i)) (judged (sense_of ns) (c.in-Ok-Ok.is-1 i)))
