use Rattle.std.proofs.Common.{sym, ap, ◌∙◌}
use Rattle.std.specs.Option.{option_map}
use Rattle.vl_tree.specs.SyntaxView as view
use Rattle.vl_value.specs.Order.{least}
use Rattle.vl_found.specs.View.{found}
use Rattle.vl_design.specs.Parameters as design
use Rattle.vl_span.specs.Plain.{plain_span}
use Rattle.vl_parameters.proofs.Weighing.{spoilt_some}
use Rattle.vl_parameters.proofs.worth.spoilt.Goals as goal

pub returns : goal.returns
returns c =
    let p = view.place c.args.place in let sp = plain_span c.in_ok-range.range in
    sym (ap (λ r. least (design.spoilt p (option_map plain_span r))) c.in_ok-range.was
    ∙ ap least (spoilt_some p sp (found c.in_ok-_fault._fault) c.in_ok-_fault.ensures))
