use Rattle.std.proofs.Common.{◌++◌, [], ap, ◌∙◌}
use Rattle.std.specs.Option.{option_map}
use Rattle.vl_tree.specs.SyntaxView as view
use Rattle.vl_value.specs.Order.{least}
use Rattle.vl_design.specs.Scopes.{ports_of}
use Rattle.vl_design.specs.ObjectFaults.{bare_faults, connection_faults}
use Rattle.vl_declares.specs.Plain.{all_plain}
use Rattle.vl_connections.specs.Connections.{bare_by, connected_by, own_faults}
use Rattle.vl_connections.proofs.Connecting.{least_two, own_first, bare_same, connected_same}
use Rattle.vl_connections.proofs.instance_fault.Goals as goal

pub returns : goal.returns
returns c =
    let ds = all_plain c.args.declared.now in let m = view.module_tree c.args.parent.now in let ps = ports_of m in
    let b = option_map view.binds c.args.binds.now in
    let directed = c.in_ok-directed.ensures in
    let header = c.in_ok-header.ensures
    ∙ (λ i. least (bare_by (λ x. directed x i) [] (c.ports_of.ensures i))) ∙ ap least (bare_same ds [] ps) in
    let connections = c.in_ok-connections.ensures
    ∙ (λ i. least (connected_by (λ x. directed x i) (c.ports_of-2.ensures i) b)) ∙ ap least (connected_same m ds b) in
    let fs = bare_faults ds [] ps ++ connection_faults m ds b in
    λ outer. least_two (own_faults ds) fs _ _ _ c.lesser-2.ensures c.in_ok-own.ensures
    (least_two (bare_faults ds [] ps) (connection_faults m ds b) _ _ _ c.lesser.ensures header connections)
    ∙ ap least (own_first ds fs)
