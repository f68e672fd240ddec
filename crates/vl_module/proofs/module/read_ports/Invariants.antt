use Rattle.std.proofs.Common.{List, ◌++◌, length}
use Rattle.vl_tree.specs.Token.{Tokens, all_coded}
use Rattle.vl_tree.specs.Tree.{Port}
use Rattle.vl_module.specs.Reading.{Any, Took, NoTree}
use Rattle.vl_module.specs.Rules.{ports_end, list_at, list_of}
use Rattle.vl_module.proofs.module.read_ports.Given as goal

abbrev pub invariant-loop-ports : goal.invariant-loop-ports
invariant-loop-ports l = record {
  took : (ps : List Port) (z : Tokens) → Took ports_end Any ps (all_coded l.rest) z → Took list_at Any (list_of l.ports ++ ps) (all_coded l.fn.tokens) z;
  none : NoTree ports_end Any (all_coded l.rest) → NoTree list_at Any (all_coded l.fn.tokens);
}

abbrev pub decreases-loop-ports : goal.decreases-loop-ports
decreases-loop-ports l = length l.rest
