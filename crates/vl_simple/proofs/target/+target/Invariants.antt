use Rattle.std.proofs.Common.{◌<◌, ◌+◌, ◌*◌, List, ◌++◌, length, map}
use Rattle.vl_tree.specs.Syntax.{Target}
use Rattle.vl_tree.specs.SyntaxView as view
use Rattle.vl_tree.specs.Placed.{Placed}
use Rattle.vl_tree.specs.Piece.{more_of}
use Rattle.vl_tree.specs.Statements.{target_at, targets_at}
use Rattle.vl_tree.specs.Depth.{target_depths, targets_depths, more_depths}
use Rattle.vl_read.specs.declared.fault.Fault.{Fault}
use Rattle.vl_read.specs.Reading.{Took, Refuses}
use Rattle.vl_read.specs.Commas.{EndsCommas}
use Rattle.vl_simple.specs.Targets.{EndsTarget}
use Rattle.vl_simple.proofs.TargetRules.{joined}
use Rattle.vl_simple.proofs.target.+target.Given as goal

abbrev pub decreases-read_target : goal.decreases-read_target
decreases-read_target l = 4 * length l.at

abbrev pub decreases-read_targets : goal.decreases-read_targets
decreases-read_targets l = 4 * length l.at + 1

abbrev pub invariant-read_targets-loop-all : goal.invariant-read_targets-loop-all
invariant-read_targets-loop-all l = record {
  took : (es : List Target) (rest : List Placed)
      → Took (more_of target_at) (more_depths target_depths l.depth) (EndsCommas EndsTarget) (EndsCommas EndsTarget) es l.rest rest
      → Took targets_at (targets_depths l.depth) (EndsCommas EndsTarget) (EndsCommas EndsTarget)
      (joined (map view.target l.all ++ es)) l.fn.at rest;
  fails : (e : Fault)
      → Refuses (more_of target_at) (more_depths target_depths l.depth) (EndsCommas EndsTarget) (EndsCommas EndsTarget) l.rest e
      → Refuses targets_at (targets_depths l.depth) (EndsCommas EndsTarget) (EndsCommas EndsTarget) l.fn.at e;
  shorter : length l.rest < length l.fn.at;
}

abbrev pub decreases-read_targets-loop-all : goal.decreases-read_targets-loop-all
decreases-read_targets-loop-all l = length l.rest
