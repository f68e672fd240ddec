-- Parts of the rules of statements that one reader reads at a time (IEEE 1364-2005, A.6), and the lists of the program that are read so
-- far with what comes after them. This project's own.
use Rattle.std.specs.Prelude.{ℕ, ◌+◌, ◌≡◌, Bool, List, [], ◌∷◌, ◌++◌, Result}
use Rattle.vl_tree.specs.declared.token.Key.TheVariants as w
use Rattle.vl_tree.specs.declared.token.Mark.TheVariants as m
use Rattle.vl_tree.specs.declared.statement.Stmt as stmt_code
use Rattle.vl_tree.specs.declared.statement.Branch as branch_code
use Rattle.vl_tree.specs.declared.statement.Arm as arm_code
use Rattle.vl_tree.specs.declared.statement.Arm.TheVariants as arm
use Rattle.vl_tree.specs.Syntax.{Place, Expr, Exprs, Stmt, Stmts, more_stmt}
use Rattle.vl_tree.specs.Syntax.{Branches, more_branch, Otherwise, Arms, more_arm, default_arm}
use Rattle.vl_tree.specs.SyntaxView.{place, expr, stmt}
use Rattle.vl_tree.specs.Placed.{Placed}
use Rattle.vl_tree.specs.Piece.{Piece, ◌then◌, given, word, word_at, mark, where_true}
use Rattle.vl_tree.specs.Expressions.{exprs_at}
use Rattle.vl_tree.specs.Statements.{stmt_at, stmts_at, branches_at}
use Rattle.vl_tree.specs.Statements.{otherwise_at, arms_at, NoElse}
use Rattle.vl_tree.specs.Depth.{exprs_depths, one_if, stmt_depths}
use Rattle.vl_tree.specs.Depth.{stmts_depths, more_branches_depths, otherwise_depths, arms_depths}
use Rattle.vl_read.specs.declared.fault.Fault.{Fault}
use Rattle.vl_read.specs.Reading.{Reads, Any}
use Rattle.vl_expr.specs.Lists.{exprs_of}
use Rattle.vl_simple.specs.Readers.{grouped_at, grouped_depths}

-- ---- blocks

-- statements and `end`
abbrev pub ended_at : Stmts → Piece
ended_at ss = stmts_at ss then word w.End

-- the depths of what stands in a block and of its `end`
abbrev pub ended_depths : ℕ → Stmts → List ℕ
ended_depths d ss = stmts_depths (d + 1) ss ++ (d ∷ [])

-- statements so far, and those after them
abbrev pub stmts_on : List stmt_code.Stmt → Stmts → Stmts
stmts_on [] ss = ss
stmts_on (s ∷ more) ss = more_stmt (stmt s) (stmts_on more ss)

-- ---- branches

-- a condition and its statement, after an `if` with this place
abbrev pub branch_at : Place → Place × Expr × Stmt → Piece
branch_at p (q, c, b) = given (q ≡ p) (grouped_at c then stmt_at b)

-- their depths
abbrev pub branch_depths : ℕ → Place × Expr × Stmt → List ℕ
branch_depths d (q, c, b) = grouped_depths d c ++ stmt_depths (d + 1) b

-- the plain tree of a branch
abbrev pub branch_of : branch_code.Branch stmt_code.Stmt → Place × Expr × Stmt
branch_of b = (place b.place, expr b.condition, stmt b.body)

abbrev pub ReadsBranch : Place → ℕ → List Placed → Result (branch_code.Branch stmt_code.Stmt × List Placed) Fault → Type 0
ReadsBranch p d ts r = Reads branch_of (branch_at p) (branch_depths d) NoElse Any ts r

-- what stands after the first branch: others, and a last `else` if there is one
abbrev pub others_at : Branches × Otherwise → Piece
others_at x = branches_at x.0 then otherwise_at x.1

-- its depths
abbrev pub others_depths : ℕ → Branches × Otherwise → List ℕ
others_depths d x = more_branches_depths d x.0 ++ otherwise_depths d x.1

-- branches so far, and those after them
abbrev pub branches_on : List (branch_code.Branch stmt_code.Stmt) → Branches → Branches
branches_on [] bs = bs
branches_on (b ∷ more) bs = more_branch (place b.place) (expr b.condition) (stmt b.body) (branches_on more bs)

-- ---- arms

-- an arm of a `case` (A.6.7)
pub data PlainArm : Type 0 where
  labels : Exprs → Stmt → PlainArm
  default : Place → Bool → Stmt → PlainArm

-- its tokens
abbrev pub arm_at : PlainArm → Piece
arm_at (labels es b) = exprs_at es then mark m.Colon then stmt_at b
arm_at (default p c b) = word_at w.Default p then where_true c (mark m.Colon) then stmt_at b

-- their depths
abbrev pub arm_depths : ℕ → PlainArm → List ℕ
arm_depths d (labels es b) = exprs_depths d es ++ (d ∷ stmt_depths (d + 1) b)
arm_depths d (default p c b) = d ∷ (one_if d c ++ stmt_depths (d + 1) b)

-- the plain tree of an arm
abbrev pub arm_of : arm_code.Arm stmt_code.Stmt → PlainArm
arm_of (arm.Labels es b) = labels (exprs_of es) (stmt b)
arm_of (arm.Default p c b) = default (place p) c (stmt b)

abbrev pub ReadsArm : ℕ → List Placed → Result (arm_code.Arm stmt_code.Stmt × List Placed) Fault → Type 0
ReadsArm d ts r = Reads arm_of arm_at (arm_depths d) NoElse Any ts r

-- an arm before others
abbrev pub with_arm : PlainArm → Arms → Arms
with_arm (labels es b) more = more_arm es b more
with_arm (default p c b) more = default_arm p c b more

-- arms and `endcase`
abbrev pub closed_at : Arms → Piece
closed_at arms = arms_at arms then word w.Endcase

-- the depths of arms and of their `endcase`
abbrev pub closed_depths : ℕ → Arms → List ℕ
closed_depths d arms = arms_depths (d + 1) arms ++ (d ∷ [])

-- arms so far, and those after them
abbrev pub arms_on : List (arm_code.Arm stmt_code.Stmt) → Arms → Arms
arms_on [] arms = arms
arms_on (a ∷ more) arms = with_arm (arm_of a) (arms_on more arms)
