-- The plain trees of the program's statements, and of their lists.
use Rattle.std.proofs.Common.{◌≡◌, List, [], ◌∷◌, ◌++◌, rules, map, refl, ap, ◌∙◌}
use Rattle.std.specs.Prelude.{Bool}
use Rattle.dt_core.specs.declared.place.Place.{Place}
use Rattle.vl_tree.specs.declared.expression.Expr.{Expr}
use Rattle.vl_tree.specs.declared.statement.Target.{Target}
use Rattle.vl_tree.specs.declared.statement.Assignment.{Assignment}
use Rattle.vl_tree.specs.declared.statement.Print.{Print}
use Rattle.vl_tree.specs.declared.statement.Printed.{Printed}
use Rattle.vl_tree.specs.declared.statement.Stopped.{Stopped}
use Rattle.vl_tree.specs.declared.statement.Stmt.{the_lemmas}
use Rattle.vl_tree.specs.declared.statement.Stmt.TheVariants as x
use Rattle.vl_tree.specs.Syntax as t
use Rattle.vl_tree.specs.SyntaxView.{expr, exprs, place, target, assignment, print, printed, stopped, stmt}
use Rattle.vl_expr.specs.Lists.{exprs_of, exprs_on}

-- ---- expressions in order

pub exprs-map : (es : List Expr) → exprs (map expr es) ≡ exprs_of es
exprs-map [] = refl
exprs-map (e ∷ es) = ap (t.more_expr (expr e)) (exprs-map es)

pub exprs_on-none : (es : List Expr) → exprs_on es t.no_expr ≡ exprs_of es
exprs_on-none [] = refl
exprs_on-none (e ∷ es) = ap (t.more_expr (expr e)) (exprs_on-none es)

pub exprs_on-one : (es : List Expr) (e : Expr) (more : t.Exprs) → exprs_on (es ++ e ∷ []) more ≡ exprs_on es (t.more_expr (expr e) more)
exprs_on-one [] e more = refl
exprs_on-one (a ∷ es) e more = ap (t.more_expr (expr a)) (exprs_on-one es e more)

-- ---- statements without statements

pub stmt-assign : (a : Target) (s : Assignment) (p : Place) (e : Expr)
    → stmt (x.Assign a s p e) ≡ t.assign (target a) (assignment s) (place p) (expr e)
stmt-assign a s p e = search (rules, the_lemmas)

pub stmt-print : (p : Place) (a : Print) (b : Printed) → stmt (x.Print p a b) ≡ t.print (place p) (print a) (printed b)
stmt-print p a b = search (rules, the_lemmas)

stmt-file-map : (p : Place) (e : Expr) (q : Place) (s : List _) (es : List Expr)
    → stmt (x.FilePrint p e q s es) ≡ t.file_print (place p) (expr e) (place q) s (exprs (map expr es))
stmt-file-map p e q s es = search (rules, the_lemmas)

pub stmt-file : (p : Place) (e : Expr) (q : Place) (s : List _) (es : List Expr)
    → stmt (x.FilePrint p e q s es) ≡ t.file_print (place p) (expr e) (place q) s (exprs_of es)
stmt-file p e q s es = stmt-file-map p e q s es ∙ ap (t.file_print (place p) (expr e) (place q) s) (exprs-map es)

pub stmt-stop : (p : Place) (a : Stopped) → stmt (x.Stop p a) ≡ t.stop (place p) (stopped a)
stmt-stop p a = search (rules, the_lemmas)

pub stmt-fatal : (p : Place) (a : Bool) → stmt (x.Fatal p a) ≡ t.fatal (place p) a
stmt-fatal p a = search (rules, the_lemmas)
