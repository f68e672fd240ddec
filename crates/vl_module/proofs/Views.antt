-- The plain trees of the code's statements, and of its lists so far.
use Rattle.std.proofs.Common.{◌≡◌, ℕ, List, [], ◌∷◌, ◌++◌, rules, map, refl, ap, ◌∙◌}
use Rattle.std.specs.Prelude.{Option, Some, None}
use Rattle.vl_tree.specs.declared.tree.Stmt.{Stmt as Code, the_lemmas}
use Rattle.vl_tree.specs.declared.tree.Stmt.TheVariants as s
use Rattle.vl_tree.specs.declared.tree.Branch.{Branch}
use Rattle.vl_tree.specs.declared.expr.Expr.{Expr as ExprCode}
use Rattle.vl_tree.specs.Tree.{Text, Stmt, Stmts, Branches, block, conditional, assign, display, stop, no_stmt, more_stmt, no_branch, more_branch, no_else, else_stmt}
use Rattle.vl_tree.specs.View.{stmt, stmts, branches, otherwise, expr, joined_stmts, joined_branches}

-- ---- one statement

stmts-map : (ss : List Code) → joined_stmts (map stmt ss) ≡ stmts ss
stmts-map [] = refl
stmts-map (a ∷ ss) = ap (more_stmt (stmt a)) (stmts-map ss)

block-map : (ss : List Code) → stmt (s.Block ss) ≡ block (joined_stmts (map stmt ss))
block-map ss = search (rules, the_lemmas)

pub stmt-block : (ss : List Code) → stmt (s.Block ss) ≡ block (stmts ss)
stmt-block ss = block-map ss ∙ ap block (stmts-map ss)

abbrev branch_tree : Branch Code → Branch Stmt
branch_tree b = record { condition = b.condition; body = stmt b.body }

branches-map : (bs : List (Branch Code)) → joined_branches (map branch_tree bs) ≡ branches bs
branches-map [] = refl
branches-map (b ∷ bs) = ap (more_branch (expr b.condition) (stmt b.body)) (branches-map bs)

no_else-map : (bs : List (Branch Code)) → stmt (s.Conditional bs None) ≡ conditional (joined_branches (map branch_tree bs)) no_else
no_else-map bs = search (rules, the_lemmas)

else-map : (bs : List (Branch Code)) (a : Code) → stmt (s.Conditional bs (Some a)) ≡ conditional (joined_branches (map branch_tree bs)) (else_stmt (stmt a))
else-map bs a = search (rules, the_lemmas)

pub stmt-conditional : (bs : List (Branch Code)) (o : Option Code) → stmt (s.Conditional bs o) ≡ conditional (branches bs) (otherwise o)
stmt-conditional bs None = no_else-map bs ∙ ap (λ w. conditional w no_else) (branches-map bs)
stmt-conditional bs (Some a) = else-map bs a ∙ ap (λ w. conditional w (else_stmt (stmt a))) (branches-map bs)

pub stmt-assign : (n : Text) (e : ExprCode) → stmt (s.Assign n e) ≡ assign n (expr e)
stmt-assign n e = search (rules, the_lemmas)

pub stmt-display : (f : Text) (n : Option Text) → stmt (s.Display f n) ≡ display f n
stmt-display f n = search (rules, the_lemmas)

pub stmt-stop : (line : ℕ) → stmt (s.Stop line) ≡ stop line
stmt-stop line = search (rules, the_lemmas)

-- ---- lists of the code so far, and what comes after them

abbrev pub stmts_on : List Code → Stmts → Stmts
stmts_on [] more = more
stmts_on (a ∷ ss) more = more_stmt (stmt a) (stmts_on ss more)

pub stmts_on-none : (ss : List Code) → stmts_on ss no_stmt ≡ stmts ss
stmts_on-none [] = refl
stmts_on-none (a ∷ ss) = ap (more_stmt (stmt a)) (stmts_on-none ss)

pub stmts_on-one : (ss : List Code) (a : Code) (more : Stmts) → stmts_on (ss ++ a ∷ []) more ≡ stmts_on ss (more_stmt (stmt a) more)
stmts_on-one [] a more = refl
stmts_on-one (b ∷ ss) a more = ap (more_stmt (stmt b)) (stmts_on-one ss a more)

abbrev pub branches_on : List (Branch Code) → Branches → Branches
branches_on [] more = more
branches_on (b ∷ bs) more = more_branch (expr b.condition) (stmt b.body) (branches_on bs more)

pub branches_on-none : (bs : List (Branch Code)) → branches_on bs no_branch ≡ branches bs
branches_on-none [] = refl
branches_on-none (b ∷ bs) = ap (more_branch (expr b.condition) (stmt b.body)) (branches_on-none bs)

pub branches_on-one : (bs : List (Branch Code)) (b : Branch Code) (more : Branches) → branches_on (bs ++ b ∷ []) more ≡ branches_on bs (more_branch (expr b.condition) (stmt b.body) more)
branches_on-one [] b more = refl
branches_on-one (a ∷ bs) b more = ap (more_branch (expr a.condition) (stmt a.body)) (branches_on-one bs b more)
