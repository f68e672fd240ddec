use Rattle.std.proofs.Common.{Some, map, ap, sym, subst, ◌∙◌}
use Rattle.std.specs.Prelude.{OnOk}
use Rattle.vl_tree.specs.SyntaxView as view
use Rattle.vl_width.specs.Lists.{exprs_of}
use Rattle.vl_design.specs.Clocks.{in_order}
use Rattle.vl_joins.specs.Joins.{AddsJoins, joins_of, connected_by}
use Rattle.vl_joins.proofs.Joining.{exprs-map}
use Rattle.vl_joins.proofs.bound.Goals as goal

pub returns-in-Ordered : goal.returns-in-Ordered
returns-in-Ordered c =
    let ps = map view.port c.args.ports.now in
    subst (λ cs. OnOk c.in_order.result (AddsJoins (joins_of cs) c.args.joins.now.items c.in_order.new.joins.items))
    (ap (λ es. in_order ps (exprs_of es)) c.as_slice.ensures ∙ ap (in_order ps) (sym (exprs-map c.in-Ordered.all))
    ∙ ap (λ b. connected_by ps (Some (view.binds b))) (sym c.in-Ordered.is))
    c.in_order.ensures
