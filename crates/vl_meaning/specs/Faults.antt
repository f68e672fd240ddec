-- The static faults that a module with one clocked block can have, and which modules are sound. Limits and kinds are this project's
-- own; the rules are those of IEEE 1364-2005, clauses 4, 9.2 and 12.3, for one clock.
use Rattle.std.specs.Prelude.{ℕ, ◌+◌, ◌==◌, nat_le, Bool, true, false, not, ◌&&◌, List, [], ◌∷◌, length, Option, Some, None, is_some, bytes_eq, pos, int_le}
use Rattle.std.specs.List.{list_all}
use Rattle.flat_ir.specs.Format.{items}
use Rattle.vl_tree.specs.Token.{Literal}
use Rattle.vl_tree.specs.Tree.{Text, Primary, name, number, Expr, primary, unary, binary, Stmt, block, conditional, assign, display, stop, Stmts, no_stmt, more_stmt, Branches, no_branch, more_branch, Otherwise, no_else, else_stmt, Port, input, output, Module}
use Rattle.vl_meaning.specs.Objects.{port_name, port_named, bound, port_width, data_inputs}

-- ---- declarations

-- no name is declared twice (else Duplicate)
abbrev pub are_distinct : List Port → Bool
are_distinct [] = true
are_distinct (p ∷ ps) = not (is_some (port_named ps (port_name p))) && are_distinct ps

-- a bound is from 0 to 65,535 (else BadRange)
abbrev pub is_bound : Literal → Bool
is_bound l = int_le (pos 0) (bound l) && int_le (bound l) (pos 65535)

abbrev pub has_range : Port → Bool
has_range (input x) = true
has_range (output x l r) = is_bound l && is_bound r

-- a vector has 128 bits at most (else TooWide)
abbrev pub is_narrow : Port → Bool
is_narrow p = nat_le (port_width p) 128

-- 65,535 signals at most (else TooManySignals), and 1,024 data inputs (else TooManyInputs)
abbrev pub are_few : Module → Bool
are_few m = nat_le (length m.ports) 65535 && nat_le (length (data_inputs m)) 1024

-- ---- names in statements

abbrev pub is_output : Option Port → Bool
is_output None = false
is_output (Some (input x)) = false
is_output (Some (output x l r)) = true

abbrev pub is_input : Option Port → Bool
is_input None = false
is_input (Some (input x)) = true
is_input (Some (output x l r)) = false

-- a name that is read is declared (else UnknownName) and isn't the clock (else ClockAsData)
abbrev pub is_read : Module → Text → Bool
is_read m x = is_some (port_named m.ports x) && not (bytes_eq x m.clock)

-- a target is declared (else UnknownName) and a variable, which an output is (else BadTarget)
abbrev pub is_target : Module → Text → Bool
is_target m x = is_output (port_named m.ports x)

-- the clock is declared (else UnknownName) and an input, which is a plain one of one bit (else BadClock)
abbrev pub is_clock : Module → Bool
is_clock m = is_input (port_named m.ports m.clock)

abbrev pub shows : Option ℕ → ℕ → Bool
shows None n = false
shows (Some k) n = k == n

-- a format has no item but %0d and %%, and shows as many arguments as there are (else BadFormat)
abbrev pub is_format : Text → ℕ → Bool
is_format f n = shows (items f) n

abbrev pub is_primary : Module → Primary → Bool
is_primary m (name x) = is_read m x
is_primary m (number l) = true

abbrev pub is_expr : Module → Expr → Bool
is_expr m (primary a) = is_primary m a
is_expr m (unary op a) = is_primary m a
is_expr m (binary a op b) = is_primary m a && is_primary m b

abbrev pub is_display : Module → Text → Option Text → Bool
is_display m f None = is_format f 0
is_display m f (Some x) = is_format f 1 && is_read m x

abbrev mutual
  pub is_stmt : Module → Stmt → Bool
  is_stmt m (block ss) = are_stmts m ss
  is_stmt m (conditional bs o) = are_branches m bs && is_else m o
  is_stmt m (assign x e) = is_target m x && is_expr m e
  is_stmt m (display f x) = is_display m f x
  is_stmt m (stop line) = true

  pub are_stmts : Module → Stmts → Bool
  are_stmts m no_stmt = true
  are_stmts m (more_stmt s ss) = is_stmt m s && are_stmts m ss

  pub are_branches : Module → Branches → Bool
  are_branches m no_branch = true
  are_branches m (more_branch c s bs) = is_expr m c && is_stmt m s && are_branches m bs

  pub is_else : Module → Otherwise → Bool
  is_else m no_else = true
  is_else m (else_stmt s) = is_stmt m s

-- ---- counts

-- how many statements stand in a statement, itself among them: each `if` of a chain is one
abbrev mutual
  pub stmt_count : Stmt → ℕ
  stmt_count (block ss) = 1 + stmts_count ss
  stmt_count (conditional bs o) = branches_count bs + else_count o
  stmt_count (assign x e) = 1
  stmt_count (display f x) = 1
  stmt_count (stop line) = 1

  pub stmts_count : Stmts → ℕ
  stmts_count no_stmt = 0
  stmts_count (more_stmt s ss) = stmt_count s + stmts_count ss

  pub branches_count : Branches → ℕ
  branches_count no_branch = 0
  branches_count (more_branch c s bs) = 1 + (stmt_count s + branches_count bs)

  pub else_count : Otherwise → ℕ
  else_count no_else = 0
  else_count (else_stmt s) = stmt_count s

-- how many `$stop` stand in a statement
abbrev mutual
  pub stmt_stops : Stmt → ℕ
  stmt_stops (block ss) = stmts_stops ss
  stmt_stops (conditional bs o) = branches_stops bs + else_stops o
  stmt_stops (assign x e) = 0
  stmt_stops (display f x) = 0
  stmt_stops (stop line) = 1

  pub stmts_stops : Stmts → ℕ
  stmts_stops no_stmt = 0
  stmts_stops (more_stmt s ss) = stmt_stops s + stmts_stops ss

  pub branches_stops : Branches → ℕ
  branches_stops no_branch = 0
  branches_stops (more_branch c s bs) = stmt_stops s + branches_stops bs

  pub else_stops : Otherwise → ℕ
  else_stops no_else = 0
  else_stops (else_stmt s) = stmt_stops s

-- the block, itself a statement, has 65,536 statements at most (else Unrolled)
abbrev pub is_short : Module → Bool
is_short m = nat_le (1 + stmts_count m.body) 65536

-- ---- the whole

-- the declarations have no fault
abbrev pub are_declared : Module → Bool
are_declared m = are_few m && list_all has_range m.ports && list_all is_narrow m.ports && are_distinct m.ports && is_clock m

-- the module has no static fault
abbrev pub has_no_fault : Module → Bool
has_no_fault m = are_declared m && are_stmts m m.body && is_short m

-- a sound module has no static fault, and one `$stop` at most, which is a bound of this form of text
abbrev pub is_sound : Module → Bool
is_sound m = has_no_fault m && nat_le (stmts_stops m.body) 1
