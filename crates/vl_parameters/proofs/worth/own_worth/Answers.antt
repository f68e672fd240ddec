use Rattle.std.proofs.Common.{sym, ap, ◌∙◌}
use Rattle.std.specs.Option.{option_map}
use Rattle.vl_tree.specs.SyntaxView as view
use Rattle.vl_value.specs.Order.{lesser, least}
use Rattle.vl_value.specs.Faults.{start}
use Rattle.vl_value.proofs.OrderLaws.{least_joined}
use Rattle.vl_width.specs.Terms.{meant}
use Rattle.vl_design.specs.Constants.{value_of, needs}
use Rattle.vl_design.specs.Parameters.{worth_of}
use Rattle.vl_constants.specs.Needed.{constants_of}
use Rattle.vl_parameters.specs.Plain.{plain_type, spoilt_at}
use Rattle.vl_parameters.proofs.Weighing.{meant_copied}
use Rattle.vl_parameters.proofs.worth.own_worth.Goals as goal

pub returns : goal.returns
returns c =
    let k = constants_of c.args.frames.now in let t = plain_type c.args.kind in let e = view.expr c.args.own.now in
    let v = meant_copied c.as_ref.result ∙ ap (option_map meant) c.as_ref.ensures.value ∙ c.in_ok-evaluated.ensures.value in
    record {
      worth = c.weigh.ensures.worth ∙ ap (worth_of t) v;
      fault = c.weigh.ensures.fault
          ∙ (λ i. lesser (c.in_ok-evaluated.ensures.fault i) (least (spoilt_at t (c.in_ok-evaluated.ensures.place i) (v i))))
          ∙ sym (least_joined (needs k e) (spoilt_at t (start e) (value_of k e)));
    }
