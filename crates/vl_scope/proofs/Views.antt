-- The plain tree of a statement, by its kind; and what is left of a list of trees, one tree on.
use Rattle.std.proofs.Common.{◌≡◌, ℕ, ◌+◌, ◌<◌, List, [], ◌∷◌, length, drop, get_or, map, Option, Some, None, refl, sym, ap, ◌∙◌, rules}
use Rattle.std.proofs.lemmas.List.{drop_more}
use Rattle.std.specs.Option.{option_map}
use Rattle.vl_tree.specs.declared.tree.Stmt.{Stmt, the_lemmas}
use Rattle.vl_tree.specs.declared.tree.Stmt.TheVariants as s
use Rattle.vl_tree.specs.declared.tree.Branch.{Branch}
use Rattle.vl_tree.specs.declared.tree.Port.{Port}
use Rattle.vl_tree.specs.declared.expr.Expr as expr_code
use Rattle.vl_tree.specs.Tree as tree
use Rattle.vl_tree.specs.View.{joined_stmts, joined_branches, joined_else, stmt, stmts, branches, otherwise, expr, port}

joined_stmts-map : (ss : List Stmt) → joined_stmts (map stmt ss) ≡ stmts ss
joined_stmts-map [] = refl
joined_stmts-map (x ∷ xs) = ap (tree.more_stmt (stmt x)) (joined_stmts-map xs)

stmt-block : (ss : List Stmt) → stmt (s.Block ss) ≡ tree.block (stmts ss)
stmt-block ss =
    let e : stmt (s.Block ss) ≡ tree.block (joined_stmts (map stmt ss)) = search (rules, the_lemmas) in
    e ∙ ap tree.block (joined_stmts-map ss)

-- the condition stays, and the body becomes plain
abbrev plain_branch : Branch Stmt → Branch tree.Stmt
plain_branch b = record { condition = b.condition; body = stmt b.body }

joined_branches-map : (bs : List (Branch Stmt)) → joined_branches (map plain_branch bs) ≡ branches bs
joined_branches-map [] = refl
joined_branches-map (b ∷ bs) = ap (tree.more_branch (expr b.condition) (stmt b.body)) (joined_branches-map bs)

joined_else-map : (o : Option Stmt) → joined_else (option_map stmt o) ≡ otherwise o
joined_else-map None = refl
joined_else-map (Some x) = refl

stmt-conditional : (bs : List (Branch Stmt)) (o : Option Stmt) → stmt (s.Conditional bs o) ≡ tree.conditional (branches bs) (otherwise o)
stmt-conditional bs o =
    let e : stmt (s.Conditional bs o) ≡ tree.conditional (joined_branches (map plain_branch bs)) (joined_else (option_map stmt o)) = search (rules, the_lemmas) in
    e ∙ (λ i. tree.conditional (joined_branches-map bs i) (joined_else-map o i))

-- the same, where the parts were read
pub block_is : (x : Stmt) (body seen : List Stmt) → x ≡ s.Block body → seen ≡ body → stmt x ≡ tree.block (stmts seen)
block_is x body seen is same = ap stmt is ∙ stmt-block body ∙ ap (λ ss. tree.block (stmts ss)) (sym same)

pub conditional_is : (x : Stmt) (bs seen : List (Branch Stmt)) (o : Option Stmt) → x ≡ s.Conditional bs o → seen ≡ bs → stmt x ≡ tree.conditional (branches seen) (otherwise o)
conditional_is x bs seen o is same = ap stmt is ∙ stmt-conditional bs o ∙ ap (λ b. tree.conditional (branches b) (otherwise o)) (sym same)

pub without_else : (x : Stmt) (bs seen : List (Branch Stmt)) (o : Option Stmt) → x ≡ s.Conditional bs o → seen ≡ bs → o ≡ None
    → stmt x ≡ tree.conditional (branches seen) tree.no_else
without_else x bs seen o is same none = conditional_is x bs seen o is same ∙ ap (λ e. tree.conditional (branches seen) (otherwise e)) none

pub with_else : (x : Stmt) (bs seen : List (Branch Stmt)) (o : Option Stmt) (body y : Stmt) → x ≡ s.Conditional bs o → seen ≡ bs → o ≡ Some body → y ≡ body
    → stmt x ≡ tree.conditional (branches seen) (tree.else_stmt (stmt y))
with_else x bs seen o body y is same some here =
    conditional_is x bs seen o is same ∙ ap (λ e. tree.conditional (branches seen) (otherwise e)) (some ∙ ap Some (sym here))

pub stmt-assign : (n : tree.Text) (e : expr_code.Expr) → stmt (s.Assign n e) ≡ tree.assign n (expr e)
stmt-assign n e = search (rules, the_lemmas)

pub stmt-display : (f : tree.Text) (n : Option tree.Text) → stmt (s.Display f n) ≡ tree.display f n
stmt-display f n = search (rules, the_lemmas)

pub stmt-stop : (line : ℕ) → stmt (s.Stop line) ≡ tree.stop line
stmt-stop line = search (rules, the_lemmas)

-- the statements from a place on: the one there, and those after it
pub stmts-drop : (all : List Stmt) (i : ℕ) (x : Stmt) → i < length all → x ≡ get_or all i x → stmts (drop i all) ≡ tree.more_stmt (stmt x) (stmts (drop (i + 1) all))
stmts-drop all i x below is = ap stmts (drop_more all i x below) ∙ ap (λ y. tree.more_stmt (stmt y) (stmts (drop (i + 1) all))) (sym is)

pub branches-drop : (all : List (Branch Stmt)) (i : ℕ) (x : Branch Stmt) → i < length all → x ≡ get_or all i x
    → branches (drop i all) ≡ tree.more_branch (expr x.condition) (stmt x.body) (branches (drop (i + 1) all))
branches-drop all i x below is =
    ap branches (drop_more all i x below) ∙ ap (λ (y : Branch Stmt). tree.more_branch (expr y.condition) (stmt y.body) (branches (drop (i + 1) all))) (sym is)

pub ports-drop : (all : List Port) (i : ℕ) (x : Port) → i < length all → x ≡ get_or all i x → map port (drop i all) ≡ port x ∷ map port (drop (i + 1) all)
ports-drop all i x below is = ap (map port) (drop_more all i x below) ∙ ap (λ y. port y ∷ map port (drop (i + 1) all)) (sym is)
