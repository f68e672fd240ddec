-- The assertions in the text of a clocked block (IEEE 1364-2005, 17.4.2), whether they ever fire or not; what stands in a loop once a
-- turn. This project's own.
use Rattle.std.specs.Prelude.{Bool, true, false, List, [], ◌∷◌, ◌++◌}
use Rattle.vl_tree.specs.Syntax as t
use Rattle.vl_tree.specs.Syntax.{Place, Stmt, Stmts, no_stmt, more_stmt, Branches, no_branch, more_branch, Otherwise, no_else, else_stmt, Arms, no_arm, more_arm, default_arm}
use Rattle.vl_value.specs.Constant.{Sight}
use Rattle.vl_design.specs.Lists.{each_of}
use Rattle.vl_process.specs.Statement.{turns, turn_sights}
use Rattle.vl_process.specs.Processes.{Block}

-- where an assertion stands, and whether it is spelt $fatal
pub record Assertion : Type 0 where
  pub place : Place
  pub fatal : Bool

abbrev mutual
  pub assertions : Sight → Stmt → List Assertion
  assertions s (t.block p x bs) = all_assertions s bs
  assertions s (t.conditional bs e) = branch_assertions s bs ++ else_assertions s e
  assertions s (t.select p z e arms) = arm_assertions s arms
  assertions s (t.loop p l b) = each_of (λ u. assertions u b) (turn_sights s l (turns s l))
  assertions s (t.stop p a) = record { place = p; fatal = false } ∷ []
  assertions s (t.fatal p z) = record { place = p; fatal = true } ∷ []
  assertions s _ = []

  pub all_assertions : Sight → Stmts → List Assertion
  all_assertions s no_stmt = []
  all_assertions s (more_stmt b bs) = assertions s b ++ all_assertions s bs

  pub branch_assertions : Sight → Branches → List Assertion
  branch_assertions s no_branch = []
  branch_assertions s (more_branch p e b bs) = assertions s b ++ branch_assertions s bs

  pub else_assertions : Sight → Otherwise → List Assertion
  else_assertions s no_else = []
  else_assertions s (else_stmt b) = assertions s b

  pub arm_assertions : Sight → Arms → List Assertion
  arm_assertions s no_arm = []
  arm_assertions s (more_arm es b more) = assertions s b ++ arm_assertions s more
  arm_assertions s (default_arm p z b more) = assertions s b ++ arm_assertions s more

-- those of a block, in order of text
abbrev pub block_assertions : Block → List Assertion
block_assertions b = assertions b.station.sight b.body
