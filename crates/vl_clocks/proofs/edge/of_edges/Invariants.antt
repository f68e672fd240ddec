use Rattle.std.proofs.Common.{◌≡◌, ◌++◌, drop, map}
use Rattle.vl_tree.specs.SyntaxView as view
use Rattle.vl_design.specs.Lists.{each_of}
use Rattle.vl_clocks.specs.Names.{texts, edge_names}
use Rattle.vl_clocks.proofs.edge.of_edges.Given as goal

-- the names so far, and those of what is left
abbrev pub invariant-loop-one : goal.invariant-loop-one
invariant-loop-one l = texts l.names.items ++ each_of edge_names (map view.sensed (drop l.one-index l.all))
    ≡ texts l.fn.names.items ++ each_of edge_names (map view.sensed l.all)
