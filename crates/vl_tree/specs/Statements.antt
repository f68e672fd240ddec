-- The grammar of statements (IEEE 1364-2005, A.6.2 to A.6.9, cut down to the profile; system tasks 17.1, 17.2 and 17.4).
use Rattle.std.specs.Prelude.{◌≡◌, Bool, true, false, IsTrue, List, [], ◌∷◌, Option}
use Rattle.vl_tree.specs.declared.token.Key.{Key}
use Rattle.vl_tree.specs.declared.token.Key.TheVariants as w
use Rattle.vl_tree.specs.declared.token.Mark.{Mark}
use Rattle.vl_tree.specs.declared.token.Mark.TheVariants as m
use Rattle.vl_tree.specs.declared.token.System.{System}
use Rattle.vl_tree.specs.declared.token.System.TheVariants as s
use Rattle.vl_tree.specs.Syntax.{Name, Target, name, targets, Targets, no_target, more_target, Loop}
use Rattle.vl_tree.specs.Syntax.{Assignment, blocking, nonblocking, Print, display, write}
use Rattle.vl_tree.specs.Syntax.{Printed, bare, empty_list, format, Stopped, no_argument, empty_argument, argument}
use Rattle.vl_tree.specs.Syntax.{Stmt, empty, block, conditional, select, loop, assign, print, file_print, stop, fatal}
use Rattle.vl_tree.specs.Syntax.{Stmts, no_stmt, more_stmt, Branches, no_branch, more_branch, Otherwise, no_else}
use Rattle.vl_tree.specs.Syntax.{else_stmt}
use Rattle.vl_tree.specs.Syntax.{Arms, no_arm, more_arm, default_arm}
use Rattle.vl_tree.specs.Token as k
use Rattle.vl_tree.specs.Placed.{Placed, kind_of}
use Rattle.vl_tree.specs.Piece.{Piece, ◌then◌, nothing, nowhere, given, kind_at, word, word_at, mark, mark_at}
use Rattle.vl_tree.specs.Piece.{system_at, name_at}
use Rattle.vl_tree.specs.Piece.{in_parens, where_true, maybe}
use Rattle.vl_tree.specs.Expressions.{expr_at, exprs_at, more_exprs_at, selects_at}

abbrev mutual
  -- what an assignment writes (A.8.5)
  pub target_at : Target → Piece
  target_at (name n ss) = name_at n then selects_at ss
  target_at (targets p xs) = mark_at m.OpenBrace p then targets_at xs then mark m.CloseBrace

  -- targets with commas between them, one at least
  pub targets_at : Targets → Piece
  targets_at no_target = nowhere
  targets_at (more_target x xs) = target_at x then more_targets_at xs

  -- targets with a comma before each
  pub more_targets_at : Targets → Piece
  more_targets_at no_target = nothing
  more_targets_at (more_target x xs) = mark m.Comma then target_at x then more_targets_at xs

-- : label, if there is one (A.6.3)
abbrev pub label_at : Option Name → Piece
label_at = maybe (λ n. mark m.Colon then name_at n)

-- the mark of an assignment (A.6.2)
abbrev pub assignment_mark : Assignment → Mark
assignment_mark blocking = m.Equals
assignment_mark nonblocking = m.LessEqual

-- the system name of a print (17.1)
abbrev pub print_name : Print → System
print_name display = s.Display
print_name write = s.Write

-- what stands after $display (17.1)
abbrev pub printed_at : Printed → Piece
printed_at bare = nothing
printed_at empty_list = mark m.OpenParen then mark m.CloseParen
printed_at (format p text es) = in_parens (kind_at (k.str text) p then more_exprs_at es)

-- what stands after $stop (17.4)
abbrev pub stopped_at : Stopped → Piece
stopped_at no_argument = nothing
stopped_at empty_argument = mark m.OpenParen then mark m.CloseParen
stopped_at (argument e) = in_parens (expr_at e)

-- the word of a case statement, casez where true (A.6.7)
abbrev pub case_word : Bool → Key
case_word false = w.Case
case_word true = w.Casez

-- (variable = first; condition; stepped = step) (A.6.8)
abbrev pub loop_at : Loop → Piece
loop_at l = in_parens (name_at l.variable then mark m.Equals then expr_at l.first then mark m.Semicolon
    then expr_at l.condition then mark m.Semicolon then name_at l.stepped then mark m.Equals then expr_at l.step)

-- no `else` comes next
abbrev pub NoElse : List Placed → Type 0
NoElse [] = Unit {0}
NoElse (a ∷ rest) = kind_of a ≡ k.key w.Else → ⊥

-- no token, and no `else` comes next
abbrev pub no_else_next : Piece
no_else_next ts rest = (ts ≡ rest) × NoElse rest

-- the statement is an `if`
abbrev pub is_conditional : Stmt → Bool
is_conditional (empty p) = false
is_conditional (block p n ss) = false
is_conditional (conditional bs o) = true
is_conditional (select p z e arms) = false
is_conditional (loop p l b) = false
is_conditional (assign x a p e) = false
is_conditional (print p a b) = false
is_conditional (file_print p e q text es) = false
is_conditional (stop p a) = false
is_conditional (fatal p a) = false

-- one arm at least
abbrev pub has_arm : Arms → Bool
has_arm no_arm = false
has_arm (more_arm es b more) = true
has_arm (default_arm p c b more) = true

abbrev mutual
  -- a statement (A.6.4)
  pub stmt_at : Stmt → Piece
  stmt_at (empty p) = mark_at m.Semicolon p
  stmt_at (block p n ss) = word_at w.Begin p then label_at n then stmts_at ss then word w.End
  stmt_at (conditional no_branch o) = nowhere
  stmt_at (conditional (more_branch p c b bs) o) = word_at w.If p then in_parens (expr_at c) then stmt_at b
      then branches_at bs then otherwise_at o
  stmt_at (select p z e arms) = word_at (case_word z) p then in_parens (expr_at e)
      then given (IsTrue (has_arm arms)) (arms_at arms)
      then word w.Endcase
  stmt_at (loop p l b) = word_at w.For p then loop_at l then stmt_at b
  stmt_at (assign x a p e) = target_at x then mark_at (assignment_mark a) p then expr_at e then mark m.Semicolon
  stmt_at (print p a b) = system_at (print_name a) p then printed_at b then mark m.Semicolon
  stmt_at (file_print p e q text es) = system_at s.Fwrite p
      then in_parens (expr_at e then mark m.Comma then kind_at (k.str text) q then more_exprs_at es)
      then mark m.Semicolon
  stmt_at (stop p a) = system_at s.Stop p then stopped_at a then mark m.Semicolon
  stmt_at (fatal p a) = system_at s.Fatal p then where_true a (mark m.OpenParen then mark m.CloseParen)
      then mark m.Semicolon

  -- statements, one after another
  pub stmts_at : Stmts → Piece
  stmts_at no_stmt = nothing
  stmts_at (more_stmt b bs) = stmt_at b then stmts_at bs

  -- the branches after the first (A.6.6)
  pub branches_at : Branches → Piece
  branches_at no_branch = nothing
  branches_at (more_branch p c b bs) = word w.Else then word_at w.If p then in_parens (expr_at c) then stmt_at b
      then branches_at bs

  -- The last `else` (9.4). Its statement is no `if`, which would be one branch more. Without one no `else` comes
  -- next, so that an `else` belongs to the nearest `if` that has none.
  pub otherwise_at : Otherwise → Piece
  otherwise_at no_else = no_else_next
  otherwise_at (else_stmt b) = word w.Else then given (is_conditional b ≡ false) (stmt_at b)

  -- arms, one after another (A.6.7)
  pub arms_at : Arms → Piece
  arms_at no_arm = nothing
  arms_at (more_arm es b more) = exprs_at es then mark m.Colon then stmt_at b then arms_at more
  arms_at (default_arm p colon b more) = word_at w.Default p then where_true colon (mark m.Colon) then stmt_at b
      then arms_at more
