use Rattle.std.proofs.Common.{◌∙◌, ap}
use Rattle.vl_sized.specs.declared.node.Node.TheVariants as n
use Rattle.vl_sized.specs.Plain.{sense_of, widest_of, all_signed}
use Rattle.vl_sized.proofs.Senses.{of_choose}
use Rattle.vl_sized.proofs.build.choose.Goals as goal

pub returns : goal.returns
returns c = λ ns.
    ap (λ b. sense_of ns (record { size = c.widest-size.result; node = n.Choose c.args.cases b })) c.in_ok-last.ensures
    ∙ of_choose ns c.widest-size.result c.args.cases c.args.last (c.widest-size.ensures.width ∙ ap (λ ks. widest_of ks c.args.last.size.width) c.as_slice.ensures)
    (c.widest-size.ensures.signed ∙ ap (λ ks. all_signed ks c.args.last.size.signed) c.as_slice.ensures)
