use Rattle.std.proofs.Common.{◌∙◌, ap, sym, subst}
use Rattle.vl_value.specs.Meaning as m
use Rattle.vl_width.specs.Rows.{taken}
use Rattle.vl_sized.specs.Moments.{on_two}
use Rattle.vl_sized.specs.Plain.{sense_of, Makes}
use Rattle.vl_sized.proofs.build.binary.Goals as goal

pub returns-in-Alike : goal.returns-in-Alike
returns-in-Alike c =
    subst (λ o. Makes c.alike.result (λ ns. on_two (m.operated o c.args.operator) (sense_of ns c.args.a) (sense_of ns c.args.b)))
    (sym (ap taken c.in-Alike.is) ∙ c.operands_of.ensures) c.alike.ensures

pub returns-in-Shifted : goal.returns-in-Shifted
returns-in-Shifted c =
    subst (λ o. Makes c.shifted.result (λ ns. on_two (m.operated o c.args.operator) (sense_of ns c.args.a) (sense_of ns c.args.b)))
    (sym (ap taken c.in-Shifted.is) ∙ c.operands_of.ensures) c.shifted.ensures

pub returns-in-Compared : goal.returns-in-Compared
returns-in-Compared c =
    subst (λ o. Makes c.compared.result (λ ns. on_two (m.operated o c.args.operator) (sense_of ns c.args.a) (sense_of ns c.args.b)))
    (sym (ap taken c.in-Compared.is) ∙ c.operands_of.ensures) c.compared.ensures

pub returns-in-Judged : goal.returns-in-Judged
returns-in-Judged c =
    subst (λ o. Makes c.conditions.result (λ ns. on_two (m.operated o c.args.operator) (sense_of ns c.args.a) (sense_of ns c.args.b)))
    (sym (ap taken c.in-Judged.is) ∙ c.operands_of.ensures) c.conditions.ensures
