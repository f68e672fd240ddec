-- Numbers of tokens of targets and statements, and lists of the program's statements as plain trees. This project's own.
use Rattle.std.specs.Prelude.{ℕ, Bool, true, false, List, [], ◌∷◌, length, Option}
use Rattle.vl_tree.specs.declared.statement.Target as code_target
use Rattle.vl_tree.specs.declared.statement.Stmt as code
use Rattle.vl_tree.specs.declared.statement.Branch.{Branch}
use Rattle.vl_tree.specs.declared.statement.Arm.{Arm}
use Rattle.vl_tree.specs.declared.statement.Arm.TheVariants as arm
use Rattle.vl_tree.specs.Syntax as t
use Rattle.vl_tree.specs.SyntaxView as view
use Rattle.vl_tree.specs.Depth.{target_depths, targets_depths, more_targets_depths, label_depths, loop_depths, printed_depths, stopped_depths, stmt_depths, stmts_depths, branches_depths, more_branches_depths, arms_depths}
use Rattle.vl_width.specs.Lists.{exprs_of}

-- ---- lists

abbrev pub targets_of : List code_target.Target → t.Targets
targets_of [] = t.no_target
targets_of (x ∷ xs) = t.more_target (view.target x) (targets_of xs)

abbrev pub stmts_of : List code.Stmt → t.Stmts
stmts_of [] = t.no_stmt
stmts_of (s ∷ ss) = t.more_stmt (view.stmt s) (stmts_of ss)

abbrev pub branches_of : List (Branch code.Stmt) → t.Branches
branches_of [] = t.no_branch
branches_of (b ∷ bs) = t.more_branch (view.place b.place) (view.expr b.condition) (view.stmt b.body) (branches_of bs)

-- an arm before others
abbrev pub with_arm : Arm code.Stmt → t.Arms → t.Arms
with_arm (arm.Labels es s) rest = t.more_arm (exprs_of es) (view.stmt s) rest
with_arm (arm.Default p c s) rest = t.default_arm (view.place p) c (view.stmt s) rest

abbrev pub arms_of : List (Arm code.Stmt) → t.Arms
arms_of [] = t.no_arm
arms_of (a ∷ rest) = with_arm a (arms_of rest)

-- ---- tokens

abbrev pub target_tokens : t.Target → ℕ
target_tokens x = length (target_depths 0 x)

-- targets with commas between them, with one before the first where that is said
abbrev pub targets_listed : Bool → t.Targets → ℕ
targets_listed false xs = length (targets_depths 0 xs)
targets_listed true xs = length (more_targets_depths 0 xs)

abbrev pub label_tokens : Option t.Name → ℕ
label_tokens n = length (label_depths 0 n)

abbrev pub loop_tokens : t.Loop → ℕ
loop_tokens l = length (loop_depths 0 l)

abbrev pub printed_tokens : t.Printed → ℕ
printed_tokens b = length (printed_depths 0 b)

abbrev pub stopped_tokens : t.Stopped → ℕ
stopped_tokens a = length (stopped_depths 0 a)

abbrev pub stmt_tokens : t.Stmt → ℕ
stmt_tokens s = length (stmt_depths 0 s)

abbrev pub stmts_tokens : t.Stmts → ℕ
stmts_tokens ss = length (stmts_depths 0 ss)

-- branches, with an `else` before the first where that is said
abbrev pub branches_listed : Bool → t.Branches → ℕ
branches_listed false bs = length (branches_depths 0 bs)
branches_listed true bs = length (more_branches_depths 0 bs)

abbrev pub arms_tokens : t.Arms → ℕ
arms_tokens a = length (arms_depths 0 a)
