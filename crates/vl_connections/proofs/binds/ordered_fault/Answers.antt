use Rattle.std.proofs.Common.{Some, sym, ap, ◌∙◌}
use Rattle.vl_tree.specs.Syntax.{Place}
use Rattle.vl_tree.specs.declared.fault.FaultKind.TheVariants.{BadPort}
use Rattle.vl_value.specs.Order.{at, least}
use Rattle.vl_connections.proofs.Connecting.{order_some, order_none}
use Rattle.vl_connections.proofs.binds.ordered_fault.Goals as goal

pub returns-in-Some : goal.returns-in-Some
returns-in-Some c =
    let h = c.in-Some.ensures.lookup in
    ap (λ (p : Place). Some (at p BadPort)) c.start.ensures
    ∙ ap least (sym (order_some c.args.ports.now c.args.all.now c.in-Some.e.now h.3.0 h.1))

pub returns-in-None : goal.returns-in-None
returns-in-None c = ap least (sym (order_none c.args.ports.now c.args.all.now c.in-None.ensures.lookup.3))
