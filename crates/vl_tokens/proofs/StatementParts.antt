-- Tokens of targets and statements, part by part.
use Rattle.std.proofs.Common.{◌≡◌, refl, ap, sym, ◌∙◌, ℕ, ◌+◌, Bool, true, false, List, [], ◌∷◌, ◌++◌, length, map, rules, Option, Some, None, arith}
use Rattle.std.specs.Option.{option_map}
use Rattle.dt_core.specs.declared.place.Place as code_place
use Rattle.vl_tree.specs.declared.expression.Expr.{Expr}
use Rattle.vl_tree.specs.declared.expression.Name as code_name
use Rattle.vl_tree.specs.declared.expression.Selected.{Selected}
use Rattle.vl_tree.specs.declared.statement.Target as code_target
use Rattle.vl_tree.specs.declared.statement.Target.TheVariants as w
use Rattle.vl_tree.specs.declared.statement.Stmt as code
use Rattle.vl_tree.specs.declared.statement.Stmt.TheVariants as x
use Rattle.vl_tree.specs.declared.statement.Branch.{Branch}
use Rattle.vl_tree.specs.declared.statement.Arm.{Arm}
use Rattle.vl_tree.specs.declared.statement.Arm.TheVariants as arm
use Rattle.vl_tree.specs.declared.statement.Loop as code_loop
use Rattle.vl_tree.specs.declared.statement.Assignment.{Assignment}
use Rattle.vl_tree.specs.declared.statement.Print.{Print}
use Rattle.vl_tree.specs.declared.statement.Printed.{Printed}
use Rattle.vl_tree.specs.declared.statement.Stopped.{Stopped}
use Rattle.vl_tree.specs.Syntax as t
use Rattle.vl_tree.specs.Syntax.{Place, Name}
use Rattle.vl_tree.specs.SyntaxView as view
use Rattle.vl_tree.specs.Depth.{enclosed, one_if, expr_depths, exprs_depths, more_exprs_depths, target_depths, targets_depths, more_targets_depths, label_depths, loop_depths, printed_depths, stopped_depths, stmt_depths, stmts_depths, branches_depths, more_branches_depths, otherwise_depths, arms_depths}
use Rattle.vl_design.proofs.TokenLaws.{lengthened, expr_alike, more_exprs_alike, targets_alike, stmt_alike, stmts_alike, arms_alike}
use Rattle.vl_width.specs.Lists.{exprs_of}
use Rattle.vl_tokens.specs.Counted.{expr_tokens, listed, selects_tokens}
use Rattle.vl_tokens.specs.Statements.{target_tokens, targets_listed, targets_of, loop_tokens, label_tokens, printed_tokens, stopped_tokens, stmt_tokens, stmts_tokens, stmts_of, branches_listed, branches_of, arms_tokens, arms_of, with_arm}

-- what encloses has two more
within : (d : ℕ) (xs : List ℕ) → length (enclosed d xs) ≡ 2 + length xs
within d xs = let h = lengthened xs (d ∷ []) in omega (arith, h)

-- ---- targets

named_tokens : (n : Name) (ss : t.Selects) → target_tokens (t.name n ss) ≡ 1 + selects_tokens ss
named_tokens n ss = omega arith

braced_tokens : (p : Place) (xs : t.Targets) → target_tokens (t.targets p xs) ≡ 2 + targets_listed false xs
braced_tokens p xs = let h = within 0 (targets_depths 1 xs) in let a = targets_alike 1 0 xs in omega (arith, h, a)

pub no_targets : (b : Bool) → targets_listed b t.no_target ≡ 0
no_targets true = refl
no_targets false = refl

pub more_targets : (b : Bool) (y : t.Target) (xs : t.Targets)
    → targets_listed b (t.more_target y xs) ≡ (length (one_if 0 b) + target_tokens y) + targets_listed true xs
more_targets true y xs = let h = lengthened (target_depths 0 y) (more_targets_depths 0 xs) in omega (arith, h)
more_targets false y xs = let h = lengthened (target_depths 0 y) (more_targets_depths 0 xs) in omega (arith, h)

-- ---- headers

pub header_tokens : (l : t.Loop) → loop_tokens l ≡ expr_tokens l.first + (expr_tokens l.condition + (8 + expr_tokens l.step))
header_tokens l =
    let last = 1 ∷ 1 ∷ 1 ∷ expr_depths 1 l.step in
    let h = within 0 (1 ∷ 1 ∷ (expr_depths 1 l.first ++ (1 ∷ (expr_depths 1 l.condition ++ last)))) in
    let k = lengthened (expr_depths 1 l.first) (1 ∷ (expr_depths 1 l.condition ++ last)) in
    let m = lengthened (expr_depths 1 l.condition) last in
    let a = expr_alike 1 0 l.first in let b = expr_alike 1 0 l.condition in let e = expr_alike 1 0 l.step in omega (arith, h, k, m, a, b, e)

pub format_tokens : (p : Place) (s : List ℕ) (es : t.Exprs) → printed_tokens (t.format p s es) ≡ 3 + listed true es
format_tokens p s es = let h = within 0 (1 ∷ more_exprs_depths 1 es) in let a = more_exprs_alike 1 0 es in omega (arith, h, a)

pub argument_tokens : (e : t.Expr) → stopped_tokens (t.argument e) ≡ 2 + expr_tokens e
argument_tokens e = let h = within 0 (expr_depths 1 e) in let a = expr_alike 1 0 e in omega (arith, h, a)

-- ---- statements

block_tokens : (p : Place) (n : Option Name) (ss : t.Stmts) → stmt_tokens (t.block p n ss) ≡ label_tokens n + (2 + stmts_tokens ss)
block_tokens p n ss =
    let h = lengthened (label_depths 0 n) (stmts_depths 1 ss ++ (0 ∷ [])) in
    let k = lengthened (stmts_depths 1 ss) (0 ∷ []) in let a = stmts_alike 1 0 ss in omega (arith, h, k, a)

conditional_tokens : (bs : t.Branches) (o : t.Otherwise)
    → stmt_tokens (t.conditional bs o) ≡ branches_listed false bs + length (otherwise_depths 0 o)
conditional_tokens bs o = lengthened (branches_depths 0 bs) (otherwise_depths 0 o)

else_tokens : (s : t.Stmt) → length (otherwise_depths 0 (t.else_stmt s)) ≡ 1 + stmt_tokens s
else_tokens s = let a = stmt_alike 1 0 s in omega (arith, a)

select_tokens : (p : Place) (z : Bool) (e : t.Expr) (rest : t.Arms) → stmt_tokens (t.select p z e rest) ≡ expr_tokens e + (4 + arms_tokens rest)
select_tokens p z e rest =
    let h = lengthened (enclosed 0 (expr_depths 1 e)) (arms_depths 1 rest ++ (0 ∷ [])) in
    let k = within 0 (expr_depths 1 e) in let l = lengthened (arms_depths 1 rest) (0 ∷ []) in
    let a = expr_alike 1 0 e in let b = arms_alike 1 0 rest in omega (arith, h, k, l, a, b)

for_tokens : (p : Place) (l : t.Loop) (s : t.Stmt) → stmt_tokens (t.loop p l s) ≡ loop_tokens l + (1 + stmt_tokens s)
for_tokens p l s = let h = lengthened (loop_depths 0 l) (stmt_depths 1 s) in let a = stmt_alike 1 0 s in omega (arith, h, a)

assign_tokens : (y : t.Target) (a : t.Assignment) (p : Place) (e : t.Expr) → stmt_tokens (t.assign y a p e) ≡ target_tokens y + (2 + expr_tokens e)
assign_tokens y a p e =
    let h = lengthened (target_depths 0 y) (0 ∷ (expr_depths 0 e ++ (0 ∷ []))) in
    let k = lengthened (expr_depths 0 e) (0 ∷ []) in omega (arith, h, k)

print_tokens : (p : Place) (a : t.Print) (b : t.Printed) → stmt_tokens (t.print p a b) ≡ 2 + printed_tokens b
print_tokens p a b = let h = lengthened (printed_depths 0 b) (0 ∷ []) in omega (arith, h)

file_tokens : (p : Place) (e : t.Expr) (q : Place) (s : List ℕ) (es : t.Exprs)
    → stmt_tokens (t.file_print p e q s es) ≡ expr_tokens e + (6 + listed true es)
file_tokens p e q s es =
    let rest = 1 ∷ 1 ∷ more_exprs_depths 1 es in
    let h = lengthened (enclosed 0 (expr_depths 1 e ++ rest)) (0 ∷ []) in
    let k = within 0 (expr_depths 1 e ++ rest) in let l = lengthened (expr_depths 1 e) rest in
    let a = expr_alike 1 0 e in let b = more_exprs_alike 1 0 es in omega (arith, h, k, l, a, b)

stop_tokens : (p : Place) (a : t.Stopped) → stmt_tokens (t.stop p a) ≡ 2 + stopped_tokens a
stop_tokens p a = let h = lengthened (stopped_depths 0 a) (0 ∷ []) in omega (arith, h)

fatal_tokens : (p : Place) (b : Bool) → stmt_tokens (t.fatal p b) ≡ length (one_if 0 b) + (2 + length (one_if 0 b))
fatal_tokens p true = refl
fatal_tokens p false = refl

-- ---- one more in front

pub more_stmts : (s : t.Stmt) (ss : t.Stmts) → stmts_tokens (t.more_stmt s ss) ≡ stmt_tokens s + stmts_tokens ss
more_stmts s ss = lengthened (stmt_depths 0 s) (stmts_depths 0 ss)

pub no_branches : (b : Bool) → branches_listed b t.no_branch ≡ 0
no_branches true = refl
no_branches false = refl

pub more_branches : (later : Bool) (p : Place) (e : t.Expr) (s : t.Stmt) (bs : t.Branches)
    → branches_listed later (t.more_branch p e s bs) ≡ (length (one_if 0 later) + (expr_tokens e + (3 + stmt_tokens s))) + branches_listed true bs
more_branches true p e s bs =
    let h = lengthened (enclosed 0 (expr_depths 1 e)) (stmt_depths 1 s ++ more_branches_depths 0 bs) in
    let k = within 0 (expr_depths 1 e) in let l = lengthened (stmt_depths 1 s) (more_branches_depths 0 bs) in
    let a = expr_alike 1 0 e in let b = stmt_alike 1 0 s in omega (arith, h, k, l, a, b)
more_branches false p e s bs =
    let h = lengthened (enclosed 0 (expr_depths 1 e)) (stmt_depths 1 s ++ more_branches_depths 0 bs) in
    let k = within 0 (expr_depths 1 e) in let l = lengthened (stmt_depths 1 s) (more_branches_depths 0 bs) in
    let a = expr_alike 1 0 e in let b = stmt_alike 1 0 s in omega (arith, h, k, l, a, b)

-- tokens of an arm
abbrev pub arm_tokens : Arm code.Stmt → ℕ
arm_tokens (arm.Labels es s) = listed false (exprs_of es) + (1 + stmt_tokens (view.stmt s))
arm_tokens (arm.Default p c s) = length (one_if 0 c) + (1 + stmt_tokens (view.stmt s))

pub more_arms : (a : Arm code.Stmt) (rest : t.Arms) → arms_tokens (with_arm a rest) ≡ arm_tokens a + arms_tokens rest
more_arms (arm.Labels es s) rest =
    let h = lengthened (exprs_depths 0 (exprs_of es)) (0 ∷ (stmt_depths 1 (view.stmt s) ++ arms_depths 0 rest)) in
    let k = lengthened (stmt_depths 1 (view.stmt s)) (arms_depths 0 rest) in let a = stmt_alike 1 0 (view.stmt s) in omega (arith, h, k, a)
more_arms (arm.Default p c s) rest =
    let h = lengthened (one_if 0 c) (stmt_depths 1 (view.stmt s) ++ arms_depths 0 rest) in
    let k = lengthened (stmt_depths 1 (view.stmt s)) (arms_depths 0 rest) in let a = stmt_alike 1 0 (view.stmt s) in omega (arith, h, k, a)

-- ---- a tree whose parts are in hand

targets-map : (xs : List code_target.Target) → view.targets (map view.target xs) ≡ targets_of xs
targets-map [] = refl
targets-map (y ∷ xs) = ap (t.more_target (view.target y)) (targets-map xs)

stmts-map : (ss : List code.Stmt) → view.stmts (map view.stmt ss) ≡ stmts_of ss
stmts-map [] = refl
stmts-map (s ∷ ss) = ap (t.more_stmt (view.stmt s)) (stmts-map ss)

abbrev branch_tree : Branch code.Stmt → Branch t.Stmt
branch_tree b = record { place = b.place; condition = b.condition; body = view.stmt b.body }

branches-map : (bs : List (Branch code.Stmt)) → view.branches (map branch_tree bs) ≡ branches_of bs
branches-map [] = refl
branches-map (b ∷ bs) = ap (t.more_branch (view.place b.place) (view.expr b.condition) (view.stmt b.body)) (branches-map bs)

pub exprs-map : (es : List Expr) → view.exprs (map view.expr es) ≡ exprs_of es
exprs-map [] = refl
exprs-map (e ∷ es) = ap (t.more_expr (view.expr e)) (exprs-map es)

abbrev arm_tree : Arm code.Stmt → Arm t.Stmt
arm_tree (arm.Labels es b) = arm.Labels es (view.stmt b)
arm_tree (arm.Default p c b) = arm.Default p c (view.stmt b)

arms-map : (rest : List (Arm code.Stmt)) → view.arms (map arm_tree rest) ≡ arms_of rest
arms-map [] = refl
arms-map (arm.Labels es b ∷ rest) = λ i. t.more_arm (exprs-map es i) (view.stmt b) (arms-map rest i)
arms-map (arm.Default p c b ∷ rest) = ap (t.default_arm (view.place p) c (view.stmt b)) (arms-map rest)

target-name : (n : code_name.Name) (ss : List (Selected Expr)) → view.target (w.Name n ss) ≡ t.name (view.name n) (view.read_selects ss)
target-name n ss = search (rules, code_target.the_lemmas)

target-targets : (p : code_place.Place) (xs : List code_target.Target) → view.target (w.Targets p xs) ≡ t.targets (view.place p) (view.targets (map view.target xs))
target-targets p xs = search (rules, code_target.the_lemmas)

pub of_name : (y : code_target.Target) (n : code_name.Name) (ss : List (Selected Expr)) → y ≡ w.Name n ss
    → 1 + selects_tokens (view.read_selects ss) ≡ target_tokens (view.target y)
of_name y n ss is = sym (ap (λ z. target_tokens (view.target z)) is ∙ ap target_tokens (target-name n ss) ∙ named_tokens (view.name n) (view.read_selects ss))

pub of_targets : (y : code_target.Target) (p : code_place.Place) (xs : List code_target.Target) → y ≡ w.Targets p xs
    → 2 + targets_listed false (targets_of xs) ≡ target_tokens (view.target y)
of_targets y p xs is = sym (ap (λ z. target_tokens (view.target z)) is ∙ ap target_tokens (target-targets p xs)
    ∙ braced_tokens (view.place p) (view.targets (map view.target xs)) ∙ ap (λ z. 2 + targets_listed false z) (targets-map xs))

stmt-empty : (p : code_place.Place) → view.stmt (x.Empty p) ≡ t.empty (view.place p)
stmt-empty p = search (rules, code.the_lemmas)

stmt-block : (p : code_place.Place) (n : Option code_name.Name) (ss : List code.Stmt)
    → view.stmt (x.Block p n ss) ≡ t.block (view.place p) (option_map view.name n) (view.stmts (map view.stmt ss))
stmt-block p n ss = search (rules, code.the_lemmas)

stmt-conditional : (bs : List (Branch code.Stmt)) (o : Option code.Stmt)
    → view.stmt (x.Conditional bs o) ≡ t.conditional (view.branches (map branch_tree bs)) (view.otherwise (option_map view.stmt o))
stmt-conditional bs o = search (rules, code.the_lemmas)

stmt-select : (p : code_place.Place) (z : Bool) (e : Expr) (rest : List (Arm code.Stmt))
    → view.stmt (x.Select p z e rest) ≡ t.select (view.place p) z (view.expr e) (view.arms (map arm_tree rest))
stmt-select p z e rest = search (rules, code.the_lemmas)

stmt-loop : (p : code_place.Place) (l : code_loop.Loop) (b : code.Stmt) → view.stmt (x.Loop p l b) ≡ t.loop (view.place p) (view.loop l) (view.stmt b)
stmt-loop p l b = search (rules, code.the_lemmas)

stmt-assign : (y : code_target.Target) (a : Assignment) (p : code_place.Place) (e : Expr)
    → view.stmt (x.Assign y a p e) ≡ t.assign (view.target y) (view.assignment a) (view.place p) (view.expr e)
stmt-assign y a p e = search (rules, code.the_lemmas)

stmt-print : (p : code_place.Place) (a : Print) (b : Printed) → view.stmt (x.Print p a b) ≡ t.print (view.place p) (view.print a) (view.printed b)
stmt-print p a b = search (rules, code.the_lemmas)

stmt-file : (p : code_place.Place) (e : Expr) (q : code_place.Place) (s : List ℕ) (es : List Expr)
    → view.stmt (x.FilePrint p e q s es) ≡ t.file_print (view.place p) (view.expr e) (view.place q) s (view.exprs (map view.expr es))
stmt-file p e q s es = search (rules, code.the_lemmas)

stmt-stop : (p : code_place.Place) (a : Stopped) → view.stmt (x.Stop p a) ≡ t.stop (view.place p) (view.stopped a)
stmt-stop p a = search (rules, code.the_lemmas)

stmt-fatal : (p : code_place.Place) (a : Bool) → view.stmt (x.Fatal p a) ≡ t.fatal (view.place p) a
stmt-fatal p a = search (rules, code.the_lemmas)

pub of_empty : (s : code.Stmt) (p : code_place.Place) → s ≡ x.Empty p → 1 ≡ stmt_tokens (view.stmt s)
of_empty s p is = sym (ap (λ z. stmt_tokens (view.stmt z)) is ∙ ap stmt_tokens (stmt-empty p))

pub of_block : (s : code.Stmt) (p : code_place.Place) (n : Option code_name.Name) (ss : List code.Stmt) → s ≡ x.Block p n ss
    → label_tokens (option_map view.name n) + (2 + stmts_tokens (stmts_of ss)) ≡ stmt_tokens (view.stmt s)
of_block s p n ss is = sym (ap (λ z. stmt_tokens (view.stmt z)) is ∙ ap stmt_tokens (stmt-block p n ss)
    ∙ block_tokens (view.place p) (option_map view.name n) (view.stmts (map view.stmt ss))
    ∙ ap (λ z. label_tokens (option_map view.name n) + (2 + stmts_tokens z)) (stmts-map ss))

of_conditional : (s : code.Stmt) (bs : List (Branch code.Stmt)) (o : Option code.Stmt) → s ≡ x.Conditional bs o
    → branches_listed false (branches_of bs) + length (otherwise_depths 0 (view.otherwise (option_map view.stmt o))) ≡ stmt_tokens (view.stmt s)
of_conditional s bs o is = sym (ap (λ z. stmt_tokens (view.stmt z)) is ∙ ap stmt_tokens (stmt-conditional bs o)
    ∙ conditional_tokens (view.branches (map branch_tree bs)) (view.otherwise (option_map view.stmt o))
    ∙ ap (λ z. branches_listed false z + length (otherwise_depths 0 (view.otherwise (option_map view.stmt o)))) (branches-map bs))

pub of_if : (s : code.Stmt) (bs : List (Branch code.Stmt)) (o : Option code.Stmt) → s ≡ x.Conditional bs o → o ≡ None
    → branches_listed false (branches_of bs) ≡ stmt_tokens (view.stmt s)
of_if s bs o is none = let h = of_conditional s bs o is
    ∙ refl in
    let k = ap (λ z. length (otherwise_depths 0 (view.otherwise (option_map view.stmt z)))) none in omega (arith, h, k)

pub of_if_else : (s : code.Stmt) (bs : List (Branch code.Stmt)) (o : Option code.Stmt) (b : code.Stmt) → s ≡ x.Conditional bs o → o ≡ Some b
    → branches_listed false (branches_of bs) + (1 + stmt_tokens (view.stmt b)) ≡ stmt_tokens (view.stmt s)
of_if_else s bs o b is some = let h = of_conditional s bs o is in
    let k = ap (λ z. length (otherwise_depths 0 (view.otherwise (option_map view.stmt z)))) some in let l = else_tokens (view.stmt b) in omega (arith, h, k, l)

pub of_select : (s : code.Stmt) (p : code_place.Place) (z : Bool) (e : Expr) (rest : List (Arm code.Stmt)) → s ≡ x.Select p z e rest
    → expr_tokens (view.expr e) + (4 + arms_tokens (arms_of rest)) ≡ stmt_tokens (view.stmt s)
of_select s p z e rest is = sym (ap (λ y. stmt_tokens (view.stmt y)) is ∙ ap stmt_tokens (stmt-select p z e rest)
    ∙ select_tokens (view.place p) z (view.expr e) (view.arms (map arm_tree rest)) ∙ ap (λ y. expr_tokens (view.expr e) + (4 + arms_tokens y)) (arms-map rest))

pub of_for : (s : code.Stmt) (p : code_place.Place) (l : code_loop.Loop) (b : code.Stmt) → s ≡ x.Loop p l b
    → loop_tokens (view.loop l) + (1 + stmt_tokens (view.stmt b)) ≡ stmt_tokens (view.stmt s)
of_for s p l b is = sym (ap (λ y. stmt_tokens (view.stmt y)) is ∙ ap stmt_tokens (stmt-loop p l b) ∙ for_tokens (view.place p) (view.loop l) (view.stmt b))

pub of_assign : (s : code.Stmt) (y : code_target.Target) (a : Assignment) (p : code_place.Place) (e : Expr) → s ≡ x.Assign y a p e
    → target_tokens (view.target y) + (2 + expr_tokens (view.expr e)) ≡ stmt_tokens (view.stmt s)
of_assign s y a p e is = sym (ap (λ z. stmt_tokens (view.stmt z)) is ∙ ap stmt_tokens (stmt-assign y a p e)
    ∙ assign_tokens (view.target y) (view.assignment a) (view.place p) (view.expr e))

pub of_print : (s : code.Stmt) (p : code_place.Place) (a : Print) (b : Printed) → s ≡ x.Print p a b
    → 2 + printed_tokens (view.printed b) ≡ stmt_tokens (view.stmt s)
of_print s p a b is = sym (ap (λ z. stmt_tokens (view.stmt z)) is ∙ ap stmt_tokens (stmt-print p a b) ∙ print_tokens (view.place p) (view.print a) (view.printed b))

pub of_file : (s : code.Stmt) (p : code_place.Place) (e : Expr) (q : code_place.Place) (f : List ℕ) (es : List Expr) → s ≡ x.FilePrint p e q f es
    → expr_tokens (view.expr e) + (6 + listed true (exprs_of es)) ≡ stmt_tokens (view.stmt s)
of_file s p e q f es is = sym (ap (λ z. stmt_tokens (view.stmt z)) is ∙ ap stmt_tokens (stmt-file p e q f es)
    ∙ file_tokens (view.place p) (view.expr e) (view.place q) f (view.exprs (map view.expr es))
    ∙ ap (λ z. expr_tokens (view.expr e) + (6 + listed true z)) (exprs-map es))

pub of_stop : (s : code.Stmt) (p : code_place.Place) (a : Stopped) → s ≡ x.Stop p a → 2 + stopped_tokens (view.stopped a) ≡ stmt_tokens (view.stmt s)
of_stop s p a is = sym (ap (λ z. stmt_tokens (view.stmt z)) is ∙ ap stmt_tokens (stmt-stop p a) ∙ stop_tokens (view.place p) (view.stopped a))

pub of_fatal : (s : code.Stmt) (p : code_place.Place) (a : Bool) → s ≡ x.Fatal p a
    → length (one_if 0 a) + (2 + length (one_if 0 a)) ≡ stmt_tokens (view.stmt s)
of_fatal s p a is = sym (ap (λ z. stmt_tokens (view.stmt z)) is ∙ ap stmt_tokens (stmt-fatal p a) ∙ fatal_tokens (view.place p) a)
