use Rattle.vl_tree.specs.SyntaxView as view
use Rattle.vl_tree.specs.Fault.{fault_of}
use Rattle.vl_width.specs.Terms.{meant}
use Rattle.vl_width.proofs.Early.{is_constant_of, tells_none}
use Rattle.vl_width.proofs.constants.constant.Goals as goal

pub returns-in-Ok-Some-clause-value : goal.returns-in-Ok-Some-clause-value
returns-in-Ok-Some-clause-value g c =
    let h = rw c.in-Ok-Some.field-0-is at c.in-Ok-Some.ensures in
    is_constant_of (g.N.Names.sight c.args.names.now) (view.expr c.args.e.now) (meant c.in-Ok-Some.known) _ h c.constant.ensures

pub returns-in-Ok-None-clause-fault : goal.returns-in-Ok-None-clause-fault
returns-in-Ok-None-clause-fault g c =
    let h = rw c.in-Ok-None.field-0-is at c.in-Ok-None.ensures in
    tells_none (g.N.Names.sight c.args.names.now) (view.expr c.args.e.now) (fault_of c.not_constant.result) h c.not_constant.ensures
