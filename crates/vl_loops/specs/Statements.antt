-- Names that are gathered, and lists of the program's statements as plain trees. This project's own.
use Rattle.std.specs.Prelude.{◌≡◌, List, [], ◌∷◌, ◌++◌, map}
use Rattle.std.specs.Borrow.{Bor}
use Rattle.vl_tree.specs.declared.expression.Name.{Name}
use Rattle.vl_tree.specs.declared.statement.Stmt as code
use Rattle.vl_tree.specs.declared.statement.Branch.{Branch}
use Rattle.vl_tree.specs.declared.statement.Arm.{Arm}
use Rattle.vl_tree.specs.declared.statement.Arm.TheVariants as arm
use Rattle.vl_tree.specs.Syntax as t
use Rattle.vl_tree.specs.SyntaxView as view
use Rattle.vl_width.specs.Lists.{exprs_of}
use Rattle.vl_value.specs.Paths.{Text}

abbrev pub texts : List (Bor Name) → List Text
texts = map (λ n. (view.name n.now).text)

-- these were added
abbrev pub Adds : List Text → List (Bor Name) → List (Bor Name) → Type 0
Adds xs old new = texts new ≡ texts old ++ xs

abbrev pub stmts_of : List code.Stmt → t.Stmts
stmts_of [] = t.no_stmt
stmts_of (s ∷ ss) = t.more_stmt (view.stmt s) (stmts_of ss)

abbrev pub branches_of : List (Branch code.Stmt) → t.Branches
branches_of [] = t.no_branch
branches_of (b ∷ bs) = t.more_branch (view.place b.place) (view.expr b.condition) (view.stmt b.body) (branches_of bs)

-- an arm before others
abbrev pub with_arm : Arm code.Stmt → t.Arms → t.Arms
with_arm (arm.Labels es s) rest = t.more_arm (exprs_of es) (view.stmt s) rest
with_arm (arm.Default p c s) rest = t.default_arm (view.place p) c (view.stmt s) rest

abbrev pub arms_of : List (Arm code.Stmt) → t.Arms
arms_of [] = t.no_arm
arms_of (a ∷ rest) = with_arm a (arms_of rest)
