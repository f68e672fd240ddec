use Rattle.std.proofs.Common.{◌++◌, map, sym, ap, ◌∙◌}
use Rattle.vl_tree.specs.SyntaxView as view
use Rattle.vl_value.specs.Order.{lesser}
use Rattle.vl_value.proofs.OrderLaws.{least_joined}
use Rattle.vl_design.specs.Lists.{each_of}
use Rattle.vl_design.specs.Spans.{Span, range_needs}
use Rattle.vl_design.specs.Declarations as d
use Rattle.vl_constants.specs.Needed.{constants_of, range_tree}
use Rattle.vl_declares.specs.Plain.{all_plain}
use Rattle.vl_declares.proofs.item.declare_registers.Goals as goal

pub returns : goal.returns
returns c =
    let k = constants_of c.args.frames.now in
    let vs = map view.variable c.args.variables.now in let r = range_tree c.args.range in
    let y = c.in_ok-ranged.ensures in let v = c.in_ok-found.ensures in
    record {
      declared = v.declared
          ∙ ap (λ (sp : Span). all_plain c.args.declared.now.items ++ map (d.variable_by k d.register c.args.signed sp) vs) y.span;
      fault = c.lesser.ensures ∙ (λ i. lesser (y.fault i) (v.fault i))
          ∙ sym (least_joined (range_needs k r) (each_of (d.words_needs k) vs));
    }
