use Rattle.std.proofs.Common.{sym, subst}
use Rattle.vl_tree.specs.SyntaxView.{system_function}
use Rattle.vl_value.specs.Meaning as m
use Rattle.vl_sized.specs.Moments.{on_one}
use Rattle.vl_sized.specs.Plain.{sense_of, Makes}
use Rattle.vl_sized.proofs.build.system.Goals as goal

pub returns-in-ToSigned : goal.returns-in-ToSigned
returns-in-ToSigned c =
    subst (λ f. Makes c.cast.result (λ ns. on_one (m.system_of (system_function f)) (sense_of ns c.args.a))) (sym c.in-ToSigned.is) c.cast.ensures

pub returns-in-ToUnsigned : goal.returns-in-ToUnsigned
returns-in-ToUnsigned c =
    subst (λ f. Makes c.cast-in-ToUnsigned.result (λ ns. on_one (m.system_of (system_function f)) (sense_of ns c.args.a))) (sym c.in-ToUnsigned.is) c.cast-in-ToUnsigned.ensures
