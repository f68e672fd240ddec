-- The plain tree of each tree of the program. This project's own.
use Rattle.std.specs.Prelude.{List, [], ◌∷◌, Option, Some, None, map}
use Rattle.vl_tree.specs.declared.expr.Primary as primary_code
use Rattle.vl_tree.specs.declared.expr.Primary.TheVariants as a
use Rattle.vl_tree.specs.declared.expr.Expr as expr_code
use Rattle.vl_tree.specs.declared.expr.Expr.TheVariants as e
use Rattle.vl_tree.specs.declared.tree.Branch as branch_code
use Rattle.vl_tree.specs.declared.tree.Stmt as stmt_code
use Rattle.vl_tree.specs.declared.tree.Stmt.TheOpen.{Stmt-F}
use Rattle.vl_tree.specs.declared.tree.Stmt.TheFolds.{fold-Stmt}
use Rattle.vl_tree.specs.declared.tree.Port as port_code
use Rattle.vl_tree.specs.declared.tree.Port.TheVariants as p
use Rattle.vl_tree.specs.declared.tree.Module as module_code
use Rattle.vl_tree.specs.Token.{literal_of}
use Rattle.vl_tree.specs.Tree as tree
use Rattle.vl_tree.specs.Tree.{Primary, Expr, Stmt, block, conditional, assign, display, stop, Stmts, no_stmt, more_stmt, Branches, no_branch, more_branch, Otherwise, no_else, else_stmt, Port, input, output, Module}

abbrev pub primary : primary_code.Primary → Primary
primary (a.Name n) = tree.name n
primary (a.Number l) = tree.number (literal_of l)

abbrev pub expr : expr_code.Expr → Expr
expr (e.Primary x) = tree.primary (primary x)
expr (e.Unary op x) = tree.unary op (primary x)
expr (e.Binary x op y) = tree.binary (primary x) op (primary y)

-- lists whose parts are plain trees already
abbrev pub joined_stmts : List Stmt → Stmts
joined_stmts [] = no_stmt
joined_stmts (s ∷ ss) = more_stmt s (joined_stmts ss)

abbrev pub joined_branches : List (branch_code.Branch Stmt) → Branches
joined_branches [] = no_branch
joined_branches (b ∷ bs) = more_branch (expr b.condition) b.body (joined_branches bs)

abbrev pub joined_else : Option Stmt → Otherwise
joined_else None = no_else
joined_else (Some s) = else_stmt s

abbrev pub stmt_layer : Stmt-F Stmt → Stmt
stmt_layer (Stmt-F.Block ss) = block (joined_stmts ss)
stmt_layer (Stmt-F.Conditional bs s) = conditional (joined_branches bs) (joined_else s)
stmt_layer (Stmt-F.Assign n e) = assign n (expr e)
stmt_layer (Stmt-F.Display f n) = display f n
stmt_layer (Stmt-F.Stop line) = stop line

abbrev pub stmt : stmt_code.Stmt → Stmt
stmt = fold-Stmt Stmt stmt_layer

-- lists whose parts are trees of the code
abbrev pub stmts : List stmt_code.Stmt → Stmts
stmts [] = no_stmt
stmts (s ∷ ss) = more_stmt (stmt s) (stmts ss)

abbrev pub branches : List (branch_code.Branch stmt_code.Stmt) → Branches
branches [] = no_branch
branches (b ∷ bs) = more_branch (expr b.condition) (stmt b.body) (branches bs)

abbrev pub otherwise : Option stmt_code.Stmt → Otherwise
otherwise None = no_else
otherwise (Some s) = else_stmt (stmt s)

abbrev pub port : port_code.Port → Port
port (p.Input n) = input n
port (p.Output n l r) = output n (literal_of l) (literal_of r)

abbrev pub module_of : module_code.Module → Module
module_of m = record { name = m.name; ports = map port m.ports.items; clock = m.clock; body = stmts m.body }
