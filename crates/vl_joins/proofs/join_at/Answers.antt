use Rattle.std.proofs.Common.{◌∙◌}
use Rattle.vl_tree.specs.SyntaxView as view
use Rattle.vl_joins.specs.Joins.{joins_with}
use Rattle.vl_joins.proofs.Joining.{at_some, at_none}
use Rattle.vl_joins.proofs.join_at.Goals as goal

pub returns-in-Some : goal.returns-in-Some
returns-in-Some c =
    let h = c.in-Some.ensures.lookup in
    c.joined.ensures
    ∙ (λ i. joins_with (c.port_name.ensures i).text (c.plain_name.ensures i))
    ∙ at_some (view.port c.args.port.now) c.args.all.now c.args.place c.in-Some.e.now h.3.0 h.1

pub returns-in-None : goal.returns-in-None
returns-in-None c = at_none (view.port c.args.port.now) c.args.all.now c.args.place c.in-None.ensures.lookup.3
