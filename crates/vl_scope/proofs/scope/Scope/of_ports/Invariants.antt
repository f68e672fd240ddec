use Rattle.std.proofs.Common.{◌≡◌, ℕ, List, map, drop, nat_eq}
use Rattle.std.specs.Cmp.Lexicographic.{pointwise}
use Rattle.indexmap.specs.IndexMap.{get}
use Rattle.vl_tree.specs.View as view
use Rattle.vl_meaning.specs.Objects.{place_from}
use Rattle.vl_meaning.specs.Faults as faults
use Rattle.vl_scope.proofs.scope.Scope.of_ports.Given as goal

-- the names of the ports from here on have their numbers
abbrev pub invariant-loop-i : goal.invariant-loop-i
invariant-loop-i l = record {
  numbers : (x : List ℕ) → get (pointwise nat_eq) l.numbers x ≡ place_from l.i (map view.port (drop l.i l.ports)) x;
  distinct : l.distinct ≡ faults.are_distinct (map view.port (drop l.i l.ports));
}
