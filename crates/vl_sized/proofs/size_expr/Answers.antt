use Rattle.vl_tree.specs.SyntaxView as view
use Rattle.vl_sized.proofs.Told.{sized_at, tells_least}
use Rattle.vl_sized.proofs.size_expr.Goals as goal

pub returns-in-Ok-Ok-clause-value : goal.returns-in-Ok-Ok-clause-value
returns-in-Ok-Ok-clause-value g c =
    let h = rw c.in-Ok-Ok.field-0-is at c.in-Ok-Ok.ensures in
    sized_at (g.N.Names.sight c.args.names.now) (g.N.Names.numbering c.args.names.now) (view.expr c.args.e.now) c.args.context c.in-Ok-Ok.sized
    c.at_least.result h c.at_least.ensures.width c.at_least.ensures.signed c.at_least.ensures.node

pub returns-in-Ok-Err-clause-fault : goal.returns-in-Ok-Err-clause-fault
returns-in-Ok-Err-clause-fault g c =
    let h = rw c.in-Ok-Err.field-0-is at c.in-Ok-Err.ensures in
    tells_least (g.N.Names.sight c.args.names.now) (view.expr c.args.e.now) c.in-Ok-Err.fault _ h c.of_phase.ensures
