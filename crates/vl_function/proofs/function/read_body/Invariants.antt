use Rattle.std.proofs.Common.{◌≤◌, List, ◌++◌, length, map}
use Rattle.vl_tree.specs.Syntax.{FunctionDeclaration, Stmt}
use Rattle.vl_tree.specs.SyntaxView as view
use Rattle.vl_tree.specs.Placed.{Placed}
use Rattle.vl_tree.specs.Statements.{NoElse}
use Rattle.vl_read.specs.declared.fault.Fault.{Fault}
use Rattle.vl_read.specs.Reading.{Took, Refuses, Any}
use Rattle.vl_function.specs.Readers.{body_at, body_depths}
use Rattle.vl_function.proofs.function.read_body.Given as goal

abbrev pub invariant-loop-rest : goal.invariant-loop-rest
invariant-loop-rest l = record {
  took : (x : List FunctionDeclaration × Stmt) (rest : List Placed) → Took body_at (body_depths l.depth) NoElse Any x l.rest rest
      → Took body_at (body_depths l.depth) NoElse Any (map view.function_declaration l.all ++ x.0, x.1) l.fn.at rest;
  fails : (e : Fault) → Refuses body_at (body_depths l.depth) NoElse Any l.rest e → Refuses body_at (body_depths l.depth) NoElse Any l.fn.at e;
  shorter : length l.rest ≤ length l.fn.at;
}

abbrev pub decreases-loop-rest : goal.decreases-loop-rest
decreases-loop-rest l = length l.rest
