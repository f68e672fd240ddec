-- A statement from after its first token on, and the rules of statements that hold no other (IEEE 1364-2005, A.6.2, 17.1, 17.2, 17.4), as
-- the readers read them, a part at a time. This project's own.
use Rattle.std.specs.Prelude.{ℕ, ◌≡◌, ◌≤◌, Bool, List, [], ◌∷◌, ◌++◌, Option, Some, None, Result}
use Rattle.dt_core.specs.declared.place.Place as place_code
use Rattle.vl_tree.specs.declared.token.Mark.TheVariants as m
use Rattle.vl_tree.specs.declared.expression.Expr as expr_code
use Rattle.vl_tree.specs.declared.statement.Assignment as assignment_code
use Rattle.vl_tree.specs.declared.statement.Printed as printed_code
use Rattle.vl_tree.specs.declared.statement.Stopped as stopped_code
use Rattle.vl_tree.specs.declared.statement.Stmt as stmt_code
use Rattle.vl_simple.specs.declared.simple.Format as format_code
use Rattle.vl_tree.specs.Token.{Kind}
use Rattle.vl_tree.specs.Token as k
use Rattle.vl_tree.specs.Syntax.{Place, Exprs, Assignment, Stmt, assign}
use Rattle.vl_tree.specs.SyntaxView.{place, stmt, assignment, printed, stopped}
use Rattle.vl_tree.specs.Placed.{Placed, at, kind_of}
use Rattle.vl_tree.specs.Piece.{Piece, ◌then◌, nowhere, kind_at, mark, mark_at, where_true}
use Rattle.vl_tree.specs.Expressions.{expr_at, more_exprs_at}
use Rattle.vl_tree.specs.Statements.{target_at, assignment_mark, printed_at, stopped_at, stmt_at}
use Rattle.vl_tree.specs.Statements.{NoElse}
use Rattle.vl_tree.specs.Depth.{more_exprs_depths, printed_depths, stopped_depths, one_if, stmt_depths}
use Rattle.vl_read.specs.declared.fault.Fault.{Fault}
use Rattle.vl_read.specs.Reading.{Reads, Any}
use Rattle.vl_read.specs.Tokens.{Not}
use Rattle.vl_expr.specs.Ends.{EndsList}
use Rattle.vl_expr.specs.Lists.{exprs_of}

-- no `(` comes next
abbrev pub NoParen : List Placed → Type 0
NoParen = Not (k.mark m.OpenParen)

-- ---- a statement whose first token is known

-- a statement that begins with this token, from after it on
abbrev pub after : Kind → Place → Stmt → Piece
after a p s us z = stmt_at s (at a p ∷ us) z

-- all but the first
abbrev pub rest_of : List ℕ → List ℕ
rest_of [] = []
rest_of (d ∷ ds) = ds

-- its depths
abbrev pub after_depths : ℕ → Stmt → List ℕ
after_depths d s = rest_of (stmt_depths d s)

abbrev pub ReadsAfter : Kind → Place → ℕ → List Placed → Result (stmt_code.Stmt × List Placed) Fault → Type 0
ReadsAfter a p d ts r = Reads stmt (after a p) (after_depths d) NoElse Any ts r

-- ---- assignments

-- an assignment (A.6.2)
abbrev pub assign_at : Stmt → Piece
assign_at (assign x a p e) = target_at x then mark_at (assignment_mark a) p then expr_at e then mark m.Semicolon
assign_at s = nowhere

abbrev pub ReadsAssign : ℕ → List Placed → Result (stmt_code.Stmt × List Placed) Fault → Type 0
ReadsAssign d ts r = Reads stmt assign_at (stmt_depths d) Any Any ts r

-- neither `=` nor `<=` comes next
abbrev pub NoAssignment : List Placed → Type 0
NoAssignment [] = Unit {0}
NoAssignment (a ∷ rest) = (s : Assignment) → kind_of a ≡ k.mark (assignment_mark s) → ⊥

-- the assignment whose mark comes first, the mark's place and the tokens after it, or that none comes
abbrev pub FindsAssignment : List Placed → Option (assignment_code.Assignment × place_code.Place × List Placed) → Type 0
FindsAssignment ts (Some x) = ts ≡ at (k.mark (assignment_mark (assignment x.0))) (place x.1) ∷ x.2
FindsAssignment ts None = NoAssignment ts

-- ---- system tasks

-- expressions with a comma before each
abbrev pub ReadsValues : ℕ → List Placed → Result (List expr_code.Expr × List Placed) Fault → Type 0
ReadsValues d ts r = Reads exprs_of more_exprs_at (more_exprs_depths d) EndsList EndsList ts r

-- a format where it stands, and its values (17.1)
abbrev pub format_at : Place × List ℕ × Exprs → Piece
format_at (p, t, es) = kind_at (k.str t) p then more_exprs_at es

-- its depths
abbrev pub format_depths : ℕ → Place × List ℕ × Exprs → List ℕ
format_depths d (p, t, es) = d ∷ more_exprs_depths d es

-- the plain tree of a format
abbrev pub format_of : format_code.Format → Place × List ℕ × Exprs
format_of f = (place f.place, f.text, exprs_of f.values)

abbrev pub ReadsFormat : ℕ → List Placed → Result (format_code.Format × List Placed) Fault → Type 0
ReadsFormat d ts r = Reads format_of format_at (format_depths d) EndsList EndsList ts r

abbrev pub ReadsPrinted : ℕ → List Placed → Result (printed_code.Printed × List Placed) Fault → Type 0
ReadsPrinted d ts r = Reads printed printed_at (printed_depths d) NoParen NoParen ts r

abbrev pub ReadsStopped : ℕ → List Placed → Result (stopped_code.Stopped × List Placed) Fault → Type 0
ReadsStopped d ts r = Reads stopped stopped_at (stopped_depths d) NoParen NoParen ts r

-- () where true
abbrev pub empty_list_at : Bool → Piece
empty_list_at a = where_true a (mark m.OpenParen then mark m.CloseParen)

-- its depths
abbrev pub empty_list_depths : ℕ → Bool → List ℕ
empty_list_depths d a = one_if d a ++ one_if d a

abbrev pub ReadsEmptyList : List Placed → Result (Bool × List Placed) Fault → Type 0
ReadsEmptyList ts r = (d : ℕ) → d ≤ 200 → Reads (λ a. a) empty_list_at (empty_list_depths d) NoParen NoParen ts r
