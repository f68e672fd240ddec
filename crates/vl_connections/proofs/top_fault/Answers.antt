use Rattle.std.proofs.Common.{[], ap, ◌∙◌}
use Rattle.vl_tree.specs.SyntaxView as view
use Rattle.vl_value.specs.Order.{least}
use Rattle.vl_design.specs.Scopes.{ports_of}
use Rattle.vl_design.specs.ObjectFaults.{bare_faults}
use Rattle.vl_declares.specs.Plain.{all_plain}
use Rattle.vl_connections.specs.Connections.{bare_by, own_faults}
use Rattle.vl_connections.proofs.Connecting.{least_two, own_first, bare_same}
use Rattle.vl_connections.proofs.top_fault.Goals as goal

pub returns : goal.returns
returns c =
    let ds = all_plain c.args.declared.now in let ps = ports_of (view.module_tree c.args.parent.now) in
    let directed = c.in_ok-directed.ensures in
    let header = c.in_ok-header.ensures
    ∙ (λ i. least (bare_by (λ x. directed x i) [] (c.ports_of.ensures i))) ∙ ap least (bare_same ds [] ps) in
    least_two (own_faults ds) (bare_faults ds [] ps) _ _ _ c.lesser.ensures c.in_ok-own.ensures header ∙ ap least (own_first ds (bare_faults ds [] ps))
