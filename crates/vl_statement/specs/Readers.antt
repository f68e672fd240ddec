-- What the readers of statements answer (IEEE 1364-2005, A.6, for the rules; the answers are this project's own). Those of their parts are
-- `vl_simple`'s.
use Rattle.std.specs.Prelude.{ℕ, List, Result}
use Rattle.vl_tree.specs.declared.statement.Loop as loop_code
use Rattle.vl_tree.specs.declared.statement.Stmt as stmt_code
use Rattle.vl_tree.specs.SyntaxView.{loop, stmt}
use Rattle.vl_tree.specs.Placed.{Placed}
use Rattle.vl_tree.specs.Statements.{loop_at, stmt_at, NoElse}
use Rattle.vl_tree.specs.Depth.{loop_depths, stmt_depths}
use Rattle.vl_read.specs.declared.fault.Fault.{Fault}
use Rattle.vl_read.specs.Reading.{Reads, Any}
pub use Rattle.vl_simple.specs.Readers.{NoColon, grouped_at, grouped_depths, ReadsName, ReadsValued, ReadsGrouped, ReadsLabel}

-- the header of a loop
abbrev pub ReadsLoop : ℕ → List Placed → Result (loop_code.Loop × List Placed) Fault → Type 0
ReadsLoop d ts r = Reads loop loop_at (loop_depths d) Any Any ts r

-- a statement, after which no `else` may follow
abbrev pub ReadsStatement : ℕ → List Placed → Result (stmt_code.Stmt × List Placed) Fault → Type 0
ReadsStatement d ts r = Reads stmt stmt_at (stmt_depths d) NoElse Any ts r
