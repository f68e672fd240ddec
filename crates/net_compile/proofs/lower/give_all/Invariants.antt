use Rattle.net_compile.specs.Pieces.{front_of}
use Rattle.net_compile.specs.Stands.{Begins, NodesStand}
use Rattle.net_compile.proofs.lower.give_all.Given as goal

-- the slots so far hold the nodes' values
abbrev pub invariant-loop-number : goal.invariant-loop-number
invariant-loop-number l = record {
  begins : Begins (front_of l.layout.given) l.builder;
  nodes : NodesStand l.flat (front_of l.layout.given) l.builder l.slots;
}
