use Rattle.std.proofs.Common.{◌++◌, map, sym, ap, ◌∙◌}
use Rattle.std.specs.Prelude.{not, ◌&&◌}
use Rattle.vl_tree.specs.SyntaxView as view
use Rattle.vl_value.specs.Order.{lesser, least}
use Rattle.vl_value.proofs.OrderLaws.{least_joined}
use Rattle.vl_design.specs.Generate.{Around}
use Rattle.vl_design.specs.Spans.{range_needs}
use Rattle.vl_design.specs.Declarations.{parameter_by}
use Rattle.vl_design.specs.Parameters.{ParameterType, parameter_type, values_worth, value_needs, after_values}
use Rattle.vl_constants.specs.Needed.{constants_of, range_tree}
use Rattle.vl_parameters.specs.Plain.{plain_given}
use Rattle.vl_declares.specs.Items.{value_has}
use Rattle.vl_declares.specs.Plain.{all_plain}
use Rattle.vl_declares.proofs.item.declare_parameters.Goals as goal

pub returns : goal.returns
returns c =
    let k = constants_of c.args.frames.now in let gs = map plain_given c.args.given.now in
    let vs = map view.valued c.args.values.now in let r = range_tree c.args.range in let s = c.args.signed in
    let y = c.in_ok-typed.ensures in let v = c.in_ok-found.ensures in let p = c.in_ok-pass_values.ensures in
    record {
      added = v.added
          ∙ ap (λ (u : ParameterType). all_plain c.args.declared.now.items ++ map parameter_by (values_worth gs u k vs)) y.kind;
      fault = c.lesser.ensures
          ∙ (λ i. lesser (y.fault i) ((v.fault ∙ ap (λ (u : ParameterType). least (value_needs gs u k vs)) y.kind) i))
          ∙ sym (least_joined (range_needs k r) (value_needs gs (parameter_type k s r) k vs));
      known = ap (λ (a : Around). a.known) p.sight ∙ v.known ∙ ap (λ (u : ParameterType). after_values gs u k vs) y.kind;
      genvars = ap (λ (a : Around). a.is_genvar) p.sight ∙ (λ i x. not (value_has vs x) && v.genvars i x);
      outer = p.outer ∙ v.outer;
    }
