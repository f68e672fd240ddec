use Rattle.std.proofs.Common.{◌∙◌, sym, ap}
use Rattle.std.specs.Prelude.{Ok}
use Rattle.vl_value.specs.Meaning as m
use Rattle.vl_sized.specs.Moments.{on_one}
use Rattle.vl_sized.specs.Told.{mapped}
use Rattle.vl_sized.specs.Plain.{sense_of, judged}
use Rattle.vl_sized.proofs.combine.unary.Goals as goal

pub returns-in_ok-unary-in-Ok : goal.returns-in_ok-unary-in-Ok
returns-in_ok-unary-in-Ok c = λ ns.
    ap Ok (c.in_ok-unary-in-Ok.ensures ns) ∙ sym (ap (λ r. mapped (on_one (m.unary_of c.args.operator)) (judged (sense_of ns) r)) c.in-Ok.is)
