use Rattle.std.proofs.Common.{ap, map, ◌++◌, ◌∙◌}
use Rattle.std.specs.Option.{option_map}
use Rattle.vl_tree.specs.SyntaxView as view
use Rattle.vl_design.specs.Lists.{each_of}
use Rattle.vl_design.specs.Clocks.{connected}
use Rattle.vl_joins.specs.Joins.{plain_join, joins_of, connected_by, passed_by}
use Rattle.vl_joins.proofs.Joining.{connected_is, passed}
use Rattle.vl_joins.proofs.joins.Goals as goal

pub returns : goal.returns
returns c clocks l s =
    let m = view.module_tree c.args.parent.now in let b = option_map view.binds c.args.binds.now in
    ap (each_of (passed_by clocks l s))
    (c.in_ok-gather.ensures
    ∙ (λ i. map plain_join (c.new-joins.ensures.items i) ++ joins_of (connected_by (c.ports_of.ensures i) b))
    ∙ ap joins_of (connected_is m b))
    ∙ passed clocks l s (connected m b)
