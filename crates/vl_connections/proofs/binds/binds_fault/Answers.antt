use Rattle.std.proofs.Common.{Some, map, sym, ap, ◌∙◌}
use Rattle.vl_tree.specs.SyntaxView as view
use Rattle.vl_value.specs.Order.{least}
use Rattle.vl_width.specs.Lists.{exprs_of}
use Rattle.vl_names.specs.Names.{has}
use Rattle.vl_design.specs.ObjectFaults.{connection_order_faults}
use Rattle.vl_connections.specs.Connections.{connected_by}
use Rattle.vl_connections.proofs.Connecting.{exprs-map}
use Rattle.vl_connections.proofs.binds.binds_fault.Goals as goal

pub returns-in-Ordered : goal.returns-in-Ordered
returns-in-Ordered c =
    let ps = map view.port c.args.ports.now in
    c.ordered_fault.ensures
    ∙ ap (λ es. least (connection_order_faults ps es)) (ap exprs_of c.as_slice.ensures ∙ sym (exprs-map c.in-Ordered.all))
    ∙ ap (λ b. least (connected_by (has c.args.directed.now) ps (Some (view.binds b)))) (sym c.in-Ordered.is)
