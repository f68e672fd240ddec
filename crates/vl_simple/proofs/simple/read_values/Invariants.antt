use Rattle.std.proofs.Common.{◌≤◌, List, length}
use Rattle.vl_tree.specs.Placed.{Placed}
use Rattle.vl_tree.specs.Syntax.{Exprs}
use Rattle.vl_tree.specs.Expressions.{more_exprs_at}
use Rattle.vl_tree.specs.Depth.{more_exprs_depths}
use Rattle.vl_read.specs.declared.fault.Fault.{Fault}
use Rattle.vl_read.specs.Reading.{Took, Refuses}
use Rattle.vl_expr.specs.Ends.{EndsList}
use Rattle.vl_expr.specs.Lists.{exprs_on}
use Rattle.vl_simple.proofs.simple.read_values.Given as goal

abbrev pub invariant-loop-all : goal.invariant-loop-all
invariant-loop-all l = record {
  took : (es : Exprs) (rest : List Placed) → Took more_exprs_at (more_exprs_depths l.depth) EndsList EndsList es l.rest rest
      → Took more_exprs_at (more_exprs_depths l.depth) EndsList EndsList (exprs_on l.all es) l.fn.at rest;
  fails : (e : Fault) → Refuses more_exprs_at (more_exprs_depths l.depth) EndsList EndsList l.rest e
      → Refuses more_exprs_at (more_exprs_depths l.depth) EndsList EndsList l.fn.at e;
  shorter : length l.rest ≤ length l.fn.at;
}

abbrev pub decreases-loop-all : goal.decreases-loop-all
decreases-loop-all l = length l.rest
