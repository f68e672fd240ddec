use Rattle.std.proofs.Common.{◌≡◌, ◌++◌, drop, map}
use Rattle.vl_tree.specs.SyntaxView as view
use Rattle.vl_design.specs.Clocks.{by_names}
use Rattle.vl_joins.specs.Joins.{plain_join, joins_of}
use Rattle.vl_joins.proofs.by_name.Given as goal

-- the joins so far, and those of what is left
abbrev pub invariant-loop-bind : goal.invariant-loop-bind
invariant-loop-bind l = map plain_join l.joins.items ++ joins_of (by_names (map view.named_bind (drop l.bind-index l.binds)))
    ≡ map plain_join l.fn.joins.items ++ joins_of (by_names (map view.named_bind l.binds))
