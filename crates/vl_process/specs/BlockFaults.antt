-- The faults of phase 7 of a design's blocks (IEEE 1364-2005, 9.2 and 9.7; limits and places are this project's own): one positive edge
-- alone; in a clocked block nonblocking assignments alone, elsewhere blocking ones; $display and the like in clocked blocks alone; what
-- first values may read and assign. What stands in functions, loops and combinational blocks isn't looked at here: designs
-- that have one aren't built yet.
use Rattle.std.specs.Prelude.{ℕ, suc, ◌+◌, ◌==◌, Bool, true, false, if◌then◌else◌, nat_lt, List, [], ◌∷◌, ◌++◌, length, map, filter}
use Rattle.std.specs.List.{list_any}
use Rattle.vl_tree.specs.declared.fault.FaultKind.TheVariants.{AsyncControl, NegativeEdge, WrongAssign, BadInitial, TaskPlace, Unrolled}
use Rattle.vl_tree.specs.Syntax as t
use Rattle.vl_tree.specs.Syntax.{Place, Name, name, no_select, Assignment, blocking, nonblocking, Stmt, Stmts, no_stmt, more_stmt, Branches, no_branch, more_branch, Otherwise, no_else, else_stmt, Arms, no_arm, more_arm, default_arm, Edge, positive_edge, negative_edge, no_edge, Sensed, Event, sensed}
use Rattle.vl_value.specs.Constant.{Sight}
use Rattle.vl_value.specs.Order.{Found, at}
use Rattle.vl_design.specs.Lists.{each_of}
use Rattle.vl_design.specs.Scopes.{Scope}
use Rattle.vl_design.specs.LoopVariables.{object_path, is_path_in}
use Rattle.vl_design.specs.Design.{Design, Piece, process, starts, first_value, pieces_in}
use Rattle.vl_value.specs.Paths.{Path}
use Rattle.vl_process.specs.Names.{expr_names, stmt_names}
use Rattle.vl_process.specs.Aims.{Aimed, aims, may_assign}
use Rattle.vl_process.specs.NameFaults.{is_net}
use Rattle.vl_process.specs.Statement.{turns, turn_sights}
use Rattle.vl_process.specs.Processes.{scope_sight, has_edge}

-- ---- events

-- one of so many
abbrev pub edge_faults : ℕ → Edge → List Found
edge_faults n (positive_edge p) = if n == 1 then [] else at p AsyncControl ∷ []
edge_faults n (negative_edge p) = at p NegativeEdge ∷ []
edge_faults n no_edge = []

abbrev pub event_faults : Event → List Found
event_faults (sensed es) = each_of (λ (e : Sensed). edge_faults (length es) e.edge) es
event_faults _ = []

-- ---- assignments

abbrev pub assignment_faults : Bool → Assignment → Place → List Found
assignment_faults true blocking p = at p WrongAssign ∷ []
assignment_faults true nonblocking p = []
assignment_faults false blocking p = []
assignment_faults false nonblocking p = at p WrongAssign ∷ []

-- in a clocked block, or in another one
abbrev mutual
  pub assign_faults : Bool → Stmt → List Found
  assign_faults c (t.block p x ss) = all_assign_faults c ss
  assign_faults c (t.conditional bs e) = branch_assign_faults c bs ++ else_assign_faults c e
  assign_faults c (t.select p z e arms) = arm_assign_faults c arms
  assign_faults c (t.assign g a p e) = assignment_faults c a p
  assign_faults c _ = []

  pub all_assign_faults : Bool → Stmts → List Found
  all_assign_faults c no_stmt = []
  all_assign_faults c (more_stmt s ss) = assign_faults c s ++ all_assign_faults c ss

  pub branch_assign_faults : Bool → Branches → List Found
  branch_assign_faults c no_branch = []
  branch_assign_faults c (more_branch p e s bs) = assign_faults c s ++ branch_assign_faults c bs

  pub else_assign_faults : Bool → Otherwise → List Found
  else_assign_faults c no_else = []
  else_assign_faults c (else_stmt s) = assign_faults c s

  pub arm_assign_faults : Bool → Arms → List Found
  arm_assign_faults c no_arm = []
  arm_assign_faults c (more_arm es s more) = assign_faults c s ++ arm_assign_faults c more
  arm_assign_faults c (default_arm p z s more) = assign_faults c s ++ arm_assign_faults c more

-- ---- tasks, which stand in clocked blocks

abbrev mutual
  pub task_faults : Stmt → List Found
  task_faults (t.block p x ss) = all_task_faults ss
  task_faults (t.conditional bs e) = branch_task_faults bs ++ else_task_faults e
  task_faults (t.select p z e arms) = arm_task_faults arms
  task_faults (t.loop p l s) = task_faults s
  task_faults (t.print p k a) = at p TaskPlace ∷ []
  task_faults (t.file_print p e q f es) = at p TaskPlace ∷ []
  task_faults (t.stop p a) = at p TaskPlace ∷ []
  task_faults (t.fatal p z) = at p TaskPlace ∷ []
  task_faults _ = []

  pub all_task_faults : Stmts → List Found
  all_task_faults no_stmt = []
  all_task_faults (more_stmt s ss) = task_faults s ++ all_task_faults ss

  pub branch_task_faults : Branches → List Found
  branch_task_faults no_branch = []
  branch_task_faults (more_branch p e s bs) = task_faults s ++ branch_task_faults bs

  pub else_task_faults : Otherwise → List Found
  else_task_faults no_else = []
  else_task_faults (else_stmt s) = task_faults s

  pub arm_task_faults : Arms → List Found
  arm_task_faults no_arm = []
  arm_task_faults (more_arm es s more) = task_faults s ++ arm_task_faults more
  arm_task_faults (default_arm p z s more) = task_faults s ++ arm_task_faults more

abbrev pub tasks_in : Bool → Stmt → List Found
tasks_in true b = []
tasks_in false b = task_faults b

-- ---- first values: they read variables, memories and constants, and assign no variable that a combinational block assigns

abbrev pub combinational_aims : Scope → Piece → List Aimed
combinational_aims s (process p e b) = if has_edge e then [] else may_assign (scope_sight s) b
combinational_aims s _ = []

-- the variables that combinational blocks assign
abbrev pub combinational : List Scope → List Path
combinational ss = map (λ (a : Aimed). a.path) (each_of (λ s. each_of (combinational_aims s) (pieces_in s.items)) ss)

abbrev pub is_net_name : List Scope → Sight → Name → Bool
is_net_name ss s x = list_any (is_net ss) (object_path (s x.text))

abbrev pub start_reads : List Scope → Sight → List Name → List Found
start_reads ss s xs = map (λ (x : Name). at x.place BadInitial) (filter (is_net_name ss s) xs)

abbrev pub start_aims : List Path → List Aimed → List Found
start_aims ps as' = map (λ (a : Aimed). at a.place BadInitial) (filter (λ (a : Aimed). is_path_in ps a.path) as')

abbrev pub start_faults : List Scope → List Path → Sight → Piece → List Found
start_faults ss ps s (first_value x e) = start_reads ss s (expr_names e) ++ start_aims ps (aims s (name x no_select))
start_faults ss ps s (starts p b) = start_reads ss s (stmt_names b) ++ start_aims ps (may_assign s b)
start_faults ss ps s _ = []

-- ---- how many statements a block has, each `if` of a chain among them, and those of a loop once a turn

abbrev pub counted : (Sight → ℕ) → List Sight → ℕ
counted f [] = 0
counted f (u ∷ us) = f u + counted f us

abbrev mutual
  pub statements : Sight → Stmt → ℕ
  statements s (t.block p x ss) = suc (all_statements s ss)
  statements s (t.conditional bs e) = branch_statements s bs + else_statements s e
  statements s (t.select p z e arms) = suc (arm_statements s arms)
  statements s (t.loop p l b) = suc (counted (λ u. statements u b) (turn_sights s l (turns s l)))
  statements s _ = 1

  pub all_statements : Sight → Stmts → ℕ
  all_statements s no_stmt = 0
  all_statements s (more_stmt b bs) = statements s b + all_statements s bs

  pub branch_statements : Sight → Branches → ℕ
  branch_statements s no_branch = 0
  branch_statements s (more_branch p e b bs) = suc (statements s b + branch_statements s bs)

  pub else_statements : Sight → Otherwise → ℕ
  else_statements s no_else = 0
  else_statements s (else_stmt b) = statements s b

  pub arm_statements : Sight → Arms → ℕ
  arm_statements s no_arm = 0
  arm_statements s (more_arm es b more) = statements s b + arm_statements s more
  arm_statements s (default_arm p z b more) = statements s b + arm_statements s more

abbrev pub count_faults : ℕ → Sight → Place → Stmt → List Found
count_faults most s p b = if nat_lt most (statements s b) then at p Unrolled ∷ [] else []

-- ---- blocks

abbrev pub piece_faults : ℕ → Sight → Piece → List Found
piece_faults most s (process p e b) =
    event_faults e ++ (assign_faults (has_edge e) b ++ (tasks_in (has_edge e) b ++ count_faults most s p b))
piece_faults most s (starts p b) = assign_faults false b ++ (task_faults b ++ count_faults most s p b)
piece_faults most s _ = []

abbrev pub scope_faults : ℕ → List Scope → List Path → Scope → List Found
scope_faults most ss ps s = each_of (λ q. piece_faults most (scope_sight s) q ++ start_faults ss ps (scope_sight s) q) (pieces_in s.items)

-- with so many statements of a block at most
abbrev pub block_faults : ℕ → Design → List Found
block_faults most d = each_of (scope_faults most d.scopes (combinational d.scopes)) d.scopes
