use Rattle.std.proofs.Common.{◌++◌, false, map, sym, ap, refl, ◌∙◌}
use Rattle.vl_tree.specs.SyntaxView as view
use Rattle.vl_value.specs.Order.{lesser, least}
use Rattle.vl_value.proofs.OrderLaws.{least_joined}
use Rattle.vl_design.specs.Lists.{each_of}
use Rattle.vl_design.specs.Spans.{one_bit}
use Rattle.vl_design.specs.Declarations as d
use Rattle.vl_constants.specs.Needed.{constants_of}
use Rattle.vl_declares.specs.Locals.{all_locals}
use Rattle.vl_declares.proofs.function.body_of.Goals as goal

pub returns : goal.returns
returns c =
    let k = constants_of c.args.frames.now in let f = view.function c.args.function.now in
    let header = c.in_ok-ports.ensures.added
    ∙ (λ i. all_locals (c.new-inputs.ensures.items i) ++ d.header_inputs k false one_bit (map view.function_port (c.as_slice.ensures i))) in
    let copied = c.in_ok-push_all.ensures
    ∙ (λ i. all_locals (c.new-locals.ensures.items i) ++ all_locals (c.as_slice-2.ensures.value i)) ∙ header in
    record {
      result = refl;
      inputs = c.in_ok-declared_inputs.ensures
          ∙ (λ i. header i ++ each_of (d.declared_inputs k) (map view.function_declaration (c.as_slice-3.ensures i)));
      locals = c.in_ok-own.ensures.added
          ∙ (λ i. copied i ++ each_of (d.declared_locals k) (map view.function_declaration (c.as_slice-4.ensures i)));
      fault = c.lesser.ensures
          ∙ (λ i. lesser ((c.in_ok-ports.ensures.fault ∙ ap (λ ps. least (each_of (d.input_needs k) (map view.function_port ps))) c.as_slice.ensures) i)
          ((c.in_ok-own.ensures.fault ∙ ap (λ ds. least (each_of (d.declaration_needs k) (map view.function_declaration ds))) c.as_slice-4.ensures) i))
          ∙ sym (least_joined (each_of (d.input_needs k) f.ports) (each_of (d.declaration_needs k) f.declarations));
    }
