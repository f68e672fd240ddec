use Rattle.std.proofs.Common.{◌<◌, List, ◌++◌, length, map}
use Rattle.vl_tree.specs.Syntax.{Sensed}
use Rattle.vl_tree.specs.SyntaxView as view
use Rattle.vl_tree.specs.Placed.{Placed}
use Rattle.vl_tree.specs.Modules.{more_sensed_at, sensed_list_at}
use Rattle.vl_tree.specs.Depth.{more_depths, comma_depths, sensed_depths}
use Rattle.vl_read.specs.declared.fault.Fault.{Fault}
use Rattle.vl_read.specs.Reading.{Took, Refuses}
use Rattle.vl_declaration.specs.Readers.{EndsSensed}
use Rattle.vl_declaration.proofs.event.read_sensed_list.Given as goal

abbrev pub invariant-loop-all : goal.invariant-loop-all
invariant-loop-all l = record {
  took : (es : List Sensed) (rest : List Placed)
      → Took more_sensed_at (more_depths sensed_depths l.depth) EndsSensed EndsSensed es l.rest rest
      → Took sensed_list_at (comma_depths sensed_depths l.depth) EndsSensed EndsSensed (map view.sensed l.all ++ es) l.fn.at rest;
  fails : (e : Fault)
      → Refuses more_sensed_at (more_depths sensed_depths l.depth) EndsSensed EndsSensed l.rest e
      → Refuses sensed_list_at (comma_depths sensed_depths l.depth) EndsSensed EndsSensed l.fn.at e;
  shorter : length l.rest < length l.fn.at;
}

abbrev pub decreases-loop-all : goal.decreases-loop-all
decreases-loop-all l = length l.rest
