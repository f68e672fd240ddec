use Rattle.std.proofs.Common.{◌≡◌, List, [], map, drop}
use Rattle.std.specs.Option.{option_map}
use Rattle.vl_tree.specs.SyntaxView as view
use Rattle.vl_value.specs.Paths.{Text}
use Rattle.vl_value.specs.Order.{lesser, least}
use Rattle.vl_found.specs.View.{found}
use Rattle.vl_names.specs.Names.{has}
use Rattle.vl_design.specs.Lists.{stands_in}
use Rattle.vl_connections.specs.Connections.{named_by}
use Rattle.vl_connections.proofs.binds.named_fault.Given as goal

-- the names that were bound, and the least fault so far, with that of what is left
abbrev pub invariant-loop-bind : goal.invariant-loop-bind
invariant-loop-bind l = (before : List Text)
    × ((x : Text) → has l.bound x ≡ stands_in before x)
    × (lesser (option_map found l.fault) (least (named_by (has l.names) (has l.directed) before (map view.named_bind (drop l.bind-index l.binds))))
    ≡ least (named_by (has l.names) (has l.directed) [] (map view.named_bind l.binds)))
