use Rattle.std.proofs.Common.{◌≡◌, List, [], map, drop}
use Rattle.std.specs.Option.{option_map}
use Rattle.vl_tree.specs.SyntaxView as view
use Rattle.vl_value.specs.Paths.{Text}
use Rattle.vl_value.specs.Order.{lesser, least}
use Rattle.vl_found.specs.View.{found}
use Rattle.vl_names.specs.Names.{has}
use Rattle.vl_design.specs.Lists.{stands_in}
use Rattle.vl_connections.specs.Connections.{bare_by}
use Rattle.vl_connections.proofs.header.header_fault.Given as goal

-- the names before, and the least fault so far, with that of what is left
abbrev pub invariant-loop-port : goal.invariant-loop-port
invariant-loop-port l = (before : List Text)
    × ((x : Text) → has l.names x ≡ stands_in before x)
    × (lesser (option_map found l.fault) (least (bare_by (has l.directed) before (map view.port (drop l.port-index l.ports))))
    ≡ least (bare_by (has l.directed) [] (map view.port l.ports)))
