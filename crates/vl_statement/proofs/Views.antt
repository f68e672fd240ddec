-- The plain trees of the program's statements, and of their lists.
use Rattle.std.proofs.Common.{◌≡◌, List, [], ◌∷◌, ◌++◌, rules, map, refl, ap, ◌∙◌}
use Rattle.std.specs.Prelude.{Bool, Option}
use Rattle.std.specs.Option.{option_map}
use Rattle.dt_core.specs.declared.place.Place.{Place}
use Rattle.vl_tree.specs.declared.expression.Expr.{Expr}
use Rattle.vl_tree.specs.declared.expression.Name.{Name}
use Rattle.vl_tree.specs.declared.statement.Loop.{Loop}
use Rattle.vl_tree.specs.declared.statement.Branch.{Branch}
use Rattle.vl_tree.specs.declared.statement.Arm.{Arm}
use Rattle.vl_tree.specs.declared.statement.Arm.TheVariants as arm
use Rattle.vl_tree.specs.declared.statement.Stmt.{Stmt, the_lemmas}
use Rattle.vl_tree.specs.declared.statement.Stmt.TheVariants as x
use Rattle.vl_tree.specs.Syntax as t
use Rattle.vl_tree.specs.SyntaxView.{expr, place, name, loop, stmt, stmts, branches, otherwise, arms}
use Rattle.vl_statement.specs.Parts.{stmts_on, branches_on, arms_on, with_arm, arm_of}
use Rattle.vl_simple.proofs.Views.{exprs-map}

-- ---- loops and blocks

pub stmt-empty : (p : Place) → stmt (x.Empty p) ≡ t.empty (place p)
stmt-empty p = search (rules, the_lemmas)

pub stmt-loop : (p : Place) (l : Loop) (b : Stmt) → stmt (x.Loop p l b) ≡ t.loop (place p) (loop l) (stmt b)
stmt-loop p l b = search (rules, the_lemmas)

stmts-map : (ss : List Stmt) → stmts (map stmt ss) ≡ stmts_on ss t.no_stmt
stmts-map [] = refl
stmts-map (s ∷ ss) = ap (t.more_stmt (stmt s)) (stmts-map ss)

stmt-block-map : (p : Place) (n : Option Name) (ss : List Stmt)
    → stmt (x.Block p n ss) ≡ t.block (place p) (option_map name n) (stmts (map stmt ss))
stmt-block-map p n ss = search (rules, the_lemmas)

pub stmt-block : (p : Place) (n : Option Name) (ss : List Stmt)
    → stmt (x.Block p n ss) ≡ t.block (place p) (option_map name n) (stmts_on ss t.no_stmt)
stmt-block p n ss = stmt-block-map p n ss ∙ ap (t.block (place p) (option_map name n)) (stmts-map ss)

pub stmts_on-one : (ss : List Stmt) (s : Stmt) (more : t.Stmts) → stmts_on (ss ++ s ∷ []) more ≡ stmts_on ss (t.more_stmt (stmt s) more)
stmts_on-one [] s more = refl
stmts_on-one (a ∷ ss) s more = ap (t.more_stmt (stmt a)) (stmts_on-one ss s more)

-- ---- conditionals

abbrev branch_tree : Branch Stmt → Branch t.Stmt
branch_tree b = record { place = b.place; condition = b.condition; body = stmt b.body }

branches-map : (bs : List (Branch Stmt)) → branches (map branch_tree bs) ≡ branches_on bs t.no_branch
branches-map [] = refl
branches-map (b ∷ bs) = ap (t.more_branch (place b.place) (expr b.condition) (stmt b.body)) (branches-map bs)

stmt-conditional-map : (bs : List (Branch Stmt)) (o : Option Stmt)
    → stmt (x.Conditional bs o) ≡ t.conditional (branches (map branch_tree bs)) (otherwise (option_map stmt o))
stmt-conditional-map bs o = search (rules, the_lemmas)

pub stmt-conditional : (bs : List (Branch Stmt)) (o : Option Stmt)
    → stmt (x.Conditional bs o) ≡ t.conditional (branches_on bs t.no_branch) (otherwise (option_map stmt o))
stmt-conditional bs o = stmt-conditional-map bs o ∙ ap (λ w. t.conditional w (otherwise (option_map stmt o))) (branches-map bs)

pub branches_on-one : (bs : List (Branch Stmt)) (b : Branch Stmt) (more : t.Branches)
    → branches_on (bs ++ b ∷ []) more ≡ branches_on bs (t.more_branch (place b.place) (expr b.condition) (stmt b.body) more)
branches_on-one [] b more = refl
branches_on-one (a ∷ bs) b more = ap (t.more_branch (place a.place) (expr a.condition) (stmt a.body)) (branches_on-one bs b more)

-- ---- arms

abbrev arm_tree : Arm Stmt → Arm t.Stmt
arm_tree (arm.Labels es b) = arm.Labels es (stmt b)
arm_tree (arm.Default p c b) = arm.Default p c (stmt b)

arms-map : (rest : List (Arm Stmt)) → arms (map arm_tree rest) ≡ arms_on rest t.no_arm
arms-map [] = refl
arms-map (arm.Labels es b ∷ rest) = λ i. t.more_arm (exprs-map es i) (stmt b) (arms-map rest i)
arms-map (arm.Default p c b ∷ rest) = ap (t.default_arm (place p) c (stmt b)) (arms-map rest)

stmt-select-map : (p : Place) (z : Bool) (e : Expr) (rest : List (Arm Stmt))
    → stmt (x.Select p z e rest) ≡ t.select (place p) z (expr e) (arms (map arm_tree rest))
stmt-select-map p z e rest = search (rules, the_lemmas)

pub stmt-select : (p : Place) (z : Bool) (e : Expr) (rest : List (Arm Stmt))
    → stmt (x.Select p z e rest) ≡ t.select (place p) z (expr e) (arms_on rest t.no_arm)
stmt-select p z e rest = stmt-select-map p z e rest ∙ ap (t.select (place p) z (expr e)) (arms-map rest)

pub arms_on-one : (rest : List (Arm Stmt)) (a : Arm Stmt) (more : t.Arms) → arms_on (rest ++ a ∷ []) more ≡ arms_on rest (with_arm (arm_of a) more)
arms_on-one [] a more = refl
arms_on-one (b ∷ rest) a more = ap (with_arm (arm_of b)) (arms_on-one rest a more)
