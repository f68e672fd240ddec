use Rattle.std.proofs.Common.{◌≡◌, ◌++◌, drop, map}
use Rattle.vl_tree.specs.SyntaxView as view
use Rattle.vl_width.specs.Lists.{exprs_of}
use Rattle.vl_design.specs.Clocks.{in_order}
use Rattle.vl_joins.specs.Joins.{plain_join, joins_of}
use Rattle.vl_joins.proofs.in_order.Given as goal

-- the joins so far, and those of what is left
abbrev pub invariant-loop-k : goal.invariant-loop-k
invariant-loop-k l = map plain_join l.joins.items ++ joins_of (in_order (map view.port (drop l.k l.ports)) (exprs_of (drop l.k l.all)))
    ≡ map plain_join l.fn.joins.items ++ joins_of (in_order (map view.port l.ports) (exprs_of l.all))
