use Rattle.std.proofs.Common.{◌≡◌, map, drop}
use Rattle.std.specs.List.{list_all}
use Rattle.vl_tree.specs.View as view
use Rattle.vl_meaning.specs.Faults as faults
use Rattle.vl_scope.proofs.declared.are_narrow.Given as goal

-- the rest decides for all
abbrev pub invariant-loop-port : goal.invariant-loop-port
invariant-loop-port l = list_all faults.is_narrow (map view.port (drop l.port-index l.ports)) ≡ list_all faults.is_narrow (map view.port l.ports)
