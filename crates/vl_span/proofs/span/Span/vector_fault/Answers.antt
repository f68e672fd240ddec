use Rattle.std.proofs.Common.{false, sym, ◌∙◌}
use Rattle.dt_core.specs.declared.limits.TheConstants.{MAX_BOUND}
use Rattle.vl_tree.specs.SyntaxView as view
use Rattle.vl_value.specs.Order.{lesser}
use Rattle.vl_value.proofs.OrderLaws.{least_joined}
use Rattle.vl_design.specs.Spans.{bounds_faults, width_faults, shape_of}
use Rattle.vl_span.specs.Plain.{plain_span}
use Rattle.vl_span.proofs.span.Span.vector_fault.Goals as goal

pub returns : goal.returns
returns c =
    let sp = plain_span c.args.self in
    c.lesser.ensures ∙ (λ i. lesser (c.bounds_fault.ensures i) (c.width_fault.ensures i))
    ∙ sym (least_joined (bounds_faults MAX_BOUND sp) (width_faults (view.place c.args.place) (shape_of false sp)))
