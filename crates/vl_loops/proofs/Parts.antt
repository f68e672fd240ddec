-- Loops of statements and items whose parts are in hand.
use Rattle.std.proofs.Common.{◌≡◌, ℕ, ◌+◌, ◌<◌, Bool, List, [], ◌∷◌, ◌++◌, length, drop, get_or, map, rules, Option, Some, None, append-nil, refl, sym, ap, ◌∙◌}
use Rattle.std.proofs.lemmas.List.{drop_more}
use Rattle.std.specs.Option.{option_map}
use Rattle.dt_core.specs.declared.place.Place as code_place
use Rattle.vl_tree.specs.declared.expression.Expr.{Expr}
use Rattle.vl_tree.specs.declared.expression.Name as code_name
use Rattle.vl_tree.specs.declared.statement.Stmt as code
use Rattle.vl_tree.specs.declared.statement.Stmt.TheVariants as x
use Rattle.vl_tree.specs.declared.statement.Branch.{Branch}
use Rattle.vl_tree.specs.declared.statement.Arm.{Arm}
use Rattle.vl_tree.specs.declared.statement.Arm.TheVariants as arm
use Rattle.vl_tree.specs.declared.statement.Loop as code_loop
use Rattle.vl_tree.specs.Syntax as t
use Rattle.vl_tree.specs.SyntaxView as view
use Rattle.vl_width.specs.Lists.{exprs_of}
use Rattle.vl_value.specs.Paths.{Text}
use Rattle.vl_design.specs.LoopVariables.{loop_names, all_loop_names, branch_loop_names, else_loop_names, arm_loop_names}
use Rattle.vl_loops.specs.Statements.{stmts_of, branches_of, with_arm, arms_of}

stmts-map : (ss : List code.Stmt) → view.stmts (map view.stmt ss) ≡ stmts_of ss
stmts-map [] = refl
stmts-map (s ∷ ss) = ap (t.more_stmt (view.stmt s)) (stmts-map ss)

abbrev branch_tree : Branch code.Stmt → Branch t.Stmt
branch_tree b = record { place = b.place; condition = b.condition; body = view.stmt b.body }

branches-map : (bs : List (Branch code.Stmt)) → view.branches (map branch_tree bs) ≡ branches_of bs
branches-map [] = refl
branches-map (b ∷ bs) = ap (t.more_branch (view.place b.place) (view.expr b.condition) (view.stmt b.body)) (branches-map bs)

exprs-map : (es : List Expr) → view.exprs (map view.expr es) ≡ exprs_of es
exprs-map [] = refl
exprs-map (e ∷ es) = ap (t.more_expr (view.expr e)) (exprs-map es)

abbrev arm_tree : Arm code.Stmt → Arm t.Stmt
arm_tree (arm.Labels es b) = arm.Labels es (view.stmt b)
arm_tree (arm.Default p c b) = arm.Default p c (view.stmt b)

arms-map : (rest : List (Arm code.Stmt)) → view.arms (map arm_tree rest) ≡ arms_of rest
arms-map [] = refl
arms-map (arm.Labels es b ∷ rest) = λ i. t.more_arm (exprs-map es i) (view.stmt b) (arms-map rest i)
arms-map (arm.Default p c b ∷ rest) = ap (t.default_arm (view.place p) c (view.stmt b)) (arms-map rest)

pub of_block : (s : code.Stmt) (p : code_place.Place) (n : Option code_name.Name) (ss slice : List code.Stmt) → s ≡ x.Block p n ss → slice ≡ ss
    → all_loop_names (stmts_of slice) ≡ loop_names (view.stmt s)
of_block s p n ss slice is e =
    let v : view.stmt (x.Block p n ss) ≡ t.block (view.place p) (option_map view.name n) (view.stmts (map view.stmt ss)) = search (rules, code.the_lemmas) in
    ap (λ y. all_loop_names (stmts_of y)) e ∙ sym (ap (λ z. loop_names (view.stmt z)) is ∙ ap loop_names v ∙ ap all_loop_names (stmts-map ss))

of_conditional : (s : code.Stmt) (bs : List (Branch code.Stmt)) (o : Option code.Stmt) → s ≡ x.Conditional bs o
    → branch_loop_names (branches_of bs) ++ else_loop_names (view.otherwise (option_map view.stmt o)) ≡ loop_names (view.stmt s)
of_conditional s bs o is =
    let v : view.stmt (x.Conditional bs o) ≡ t.conditional (view.branches (map branch_tree bs)) (view.otherwise (option_map view.stmt o)) = search (rules, code.the_lemmas) in
    sym (ap (λ z. loop_names (view.stmt z)) is ∙ ap loop_names v
    ∙ ap (λ y. branch_loop_names y ++ else_loop_names (view.otherwise (option_map view.stmt o))) (branches-map bs))

pub of_if : (s : code.Stmt) (bs slice : List (Branch code.Stmt)) (o : Option code.Stmt) → s ≡ x.Conditional bs o → slice ≡ bs → o ≡ None
    → branch_loop_names (branches_of slice) ≡ loop_names (view.stmt s)
of_if s bs slice o is e none =
    ap (λ y. branch_loop_names (branches_of y)) e ∙ sym (append-nil (branch_loop_names (branches_of bs)))
    ∙ ap (λ z. branch_loop_names (branches_of bs) ++ else_loop_names (view.otherwise (option_map view.stmt z))) (sym none)
    ∙ of_conditional s bs o is

pub of_if_else : (s : code.Stmt) (bs slice : List (Branch code.Stmt)) (o : Option code.Stmt) (b : code.Stmt) → s ≡ x.Conditional bs o → slice ≡ bs → o ≡ Some b
    → branch_loop_names (branches_of slice) ++ loop_names (view.stmt b) ≡ loop_names (view.stmt s)
of_if_else s bs slice o b is e some =
    ap (λ y. branch_loop_names (branches_of y) ++ loop_names (view.stmt b)) e
    ∙ ap (λ z. branch_loop_names (branches_of bs) ++ else_loop_names (view.otherwise (option_map view.stmt z))) (sym some)
    ∙ of_conditional s bs o is

pub of_select : (s : code.Stmt) (p : code_place.Place) (z : Bool) (e : Expr) (rest slice : List (Arm code.Stmt)) → s ≡ x.Select p z e rest → slice ≡ rest
    → arm_loop_names (arms_of slice) ≡ loop_names (view.stmt s)
of_select s p z e rest slice is eq =
    let v : view.stmt (x.Select p z e rest) ≡ t.select (view.place p) z (view.expr e) (view.arms (map arm_tree rest)) = search (rules, code.the_lemmas) in
    ap (λ y. arm_loop_names (arms_of y)) eq ∙ sym (ap (λ y. loop_names (view.stmt y)) is ∙ ap loop_names v ∙ ap arm_loop_names (arms-map rest))

pub of_for : (s : code.Stmt) (p : code_place.Place) (l : code_loop.Loop) (b : code.Stmt) → s ≡ x.Loop p l b
    → (view.name l.variable).text ∷ loop_names (view.stmt b) ≡ loop_names (view.stmt s)
of_for s p l b is =
    let v : view.stmt (x.Loop p l b) ≡ t.loop (view.place p) (view.loop l) (view.stmt b) = search (rules, code.the_lemmas) in
    sym (ap (λ y. loop_names (view.stmt y)) is ∙ ap loop_names v)

-- ---- one further

pub stmts-drop : (all : List code.Stmt) (k : ℕ) (a : code.Stmt) → k < length all → a ≡ get_or all k a
    → all_loop_names (stmts_of (drop k all)) ≡ loop_names (view.stmt a) ++ all_loop_names (stmts_of (drop (k + 1) all))
stmts-drop all k a below is = ap (λ y. all_loop_names (stmts_of y)) (drop_more all k a below)
    ∙ ap (λ y. loop_names (view.stmt y) ++ all_loop_names (stmts_of (drop (k + 1) all))) (sym is)

pub branches-drop : (all : List (Branch code.Stmt)) (k : ℕ) (a : Branch code.Stmt) → k < length all → a ≡ get_or all k a
    → branch_loop_names (branches_of (drop k all)) ≡ loop_names (view.stmt a.body) ++ branch_loop_names (branches_of (drop (k + 1) all))
branches-drop all k a below is = ap (λ y. branch_loop_names (branches_of y)) (drop_more all k a below)
    ∙ ap (λ (y : Branch code.Stmt). loop_names (view.stmt y.body) ++ branch_loop_names (branches_of (drop (k + 1) all))) (sym is)

abbrev pub arm_names : Arm code.Stmt → List Text
arm_names (arm.Labels es s) = loop_names (view.stmt s)
arm_names (arm.Default p c s) = loop_names (view.stmt s)

arm_first : (a : Arm code.Stmt) (rest : t.Arms) → arm_loop_names (with_arm a rest) ≡ arm_names a ++ arm_loop_names rest
arm_first (arm.Labels es s) rest = refl
arm_first (arm.Default p c s) rest = refl

pub arms-drop : (all : List (Arm code.Stmt)) (k : ℕ) (a : Arm code.Stmt) → k < length all → a ≡ get_or all k a
    → arm_loop_names (arms_of (drop k all)) ≡ arm_names a ++ arm_loop_names (arms_of (drop (k + 1) all))
arms-drop all k a below is = ap (λ y. arm_loop_names (arms_of y)) (drop_more all k a below ∙ ap (λ y. y ∷ drop (k + 1) all) (sym is))
    ∙ arm_first a (arms_of (drop (k + 1) all))
