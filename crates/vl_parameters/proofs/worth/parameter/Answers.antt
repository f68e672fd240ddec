use Rattle.std.proofs.Common.{sym, ap, ◌∙◌, map}
use Rattle.std.specs.Option.{option_map}
use Rattle.vl_tree.specs.SyntaxView as view
use Rattle.vl_value.specs.Order.{least}
use Rattle.vl_width.specs.Terms.{meant}
use Rattle.vl_design.specs.Parameters.{worth_of}
use Rattle.vl_constants.specs.Needed.{constants_of}
use Rattle.vl_parameters.specs.Plain.{plain_given, plain_type, spoilt_at}
use Rattle.vl_parameters.proofs.Weighing.{needs_given, needs_own, worth_given, worth_own, meant_copied}
use Rattle.vl_parameters.proofs.worth.parameter.Goals as goal

pub returns-in-Some : goal.returns-in-Some
returns-in-Some c =
    let gs = map plain_given c.args.given.now in let k = constants_of c.args.frames.now in let t = plain_type c.args.kind in
    let x = view.name c.args.name.now in let e = view.expr c.args.own.now in
    let g = plain_given c.in-Some.one.now in
    let v = meant_copied c.as_ref.result ∙ ap (option_map meant) c.as_ref.ensures.value in
    record {
      worth = c.weigh.ensures.worth ∙ ap (worth_of t) v ∙ sym (worth_given gs k t x e g c.in-Some.ensures);
      fault = c.weigh.ensures.fault ∙ ap (λ m. least (spoilt_at t g.place m)) v ∙ sym (ap least (needs_given gs k t x e g c.in-Some.ensures));
    }

pub returns-in_ok-weighed-in-None : goal.returns-in_ok-weighed-in-None
returns-in_ok-weighed-in-None c =
    let gs = map plain_given c.args.given.now in let k = constants_of c.args.frames.now in let t = plain_type c.args.kind in
    let x = view.name c.args.name.now in let e = view.expr c.args.own.now in
    record {
      worth = c.in_ok-weighed-in-None.ensures.worth ∙ sym (worth_own gs k t x e c.in-None.ensures);
      fault = c.in_ok-weighed-in-None.ensures.fault ∙ sym (ap least (needs_own gs k t x e c.in-None.ensures));
    }
