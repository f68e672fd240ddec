use Rattle.std.proofs.Common.{List, ◌++◌, length, map}
use Rattle.vl_tree.specs.Placed.{Placed}
use Rattle.vl_tree.specs.Syntax.{Module}
use Rattle.vl_tree.specs.SyntaxView as view
use Rattle.vl_tree.specs.Modules.{source_at}
use Rattle.vl_tree.specs.Depth.{source_depths}
use Rattle.vl_read.specs.declared.fault.Fault.{Fault}
use Rattle.vl_read.specs.Reading.{Took, Refuses}
use Rattle.vl_source.specs.Readers.{NoModule}
use Rattle.vl_source.proofs.module.read_modules.Given as goal

abbrev pub invariant-loop-modules : goal.invariant-loop-modules
invariant-loop-modules l = record {
  took : (xs : List Module) (rest : List Placed) → Took source_at source_depths NoModule NoModule xs l.rest rest
      → Took source_at source_depths NoModule NoModule (map view.module_tree l.modules ++ xs) l.fn.at rest;
  fails : (e : Fault) → Refuses source_at source_depths NoModule NoModule l.rest e
      → Refuses source_at source_depths NoModule NoModule l.fn.at e;
}

abbrev pub decreases-loop-modules : goal.decreases-loop-modules
decreases-loop-modules l = length l.rest
