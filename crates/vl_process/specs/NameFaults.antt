-- The faults of phase 6 of a design's pieces: names, sizes, targets and formats (IEEE 1364-2005, 6.1, 9.2, 12.3.9, 17.1 and 17.4).
-- Limits and places are this project's own. What stands in functions, and a loop's header, isn't looked at here: designs
-- that have one aren't built yet.
use Rattle.std.specs.Prelude.{◌==◌, Bool, true, false, ◌&&◌, not, if◌then◌else◌, List, [], ◌∷◌, ◌++◌, is_some, Option, Some, None}
use Rattle.std.specs.List.{list_any}
use Rattle.message_format.specs.Formatted.{formatted}
use Rattle.vl_tree.specs.declared.fault.FaultKind.TheVariants.{UnknownName, BadTarget, BadFormat}
use Rattle.vl_tree.specs.Syntax as t
use Rattle.vl_tree.specs.Syntax.{Place, Name, Expr, Exprs, more_expr, no_expr, read, concat, Selects, Target, Targets, name, targets, no_target, more_target, Printed, format, Stopped, argument, Stmt, Stmts, no_stmt, more_stmt, Branches, no_branch, more_branch, Otherwise, no_else, else_stmt, Arms, no_arm, more_arm, default_arm, Sensed, Event, sensed, Driven}
use Rattle.vl_value.specs.Paths.{Text, Path, same_path, below}
use Rattle.vl_value.specs.Things.{Thing, signal, memory, routine}
use Rattle.vl_value.specs.Meaning.{Meaning, at_rest, meanings, own}
use Rattle.vl_value.specs.Constant.{Sight, is_fixed}
use Rattle.vl_value.specs.Order.{Found, at}
use Rattle.vl_value.specs.Faults.{start, wide, Chosen, of_name, faults, all_faults, select_faults, chosen, needed_faults, constant_meaning}
use Rattle.vl_design.specs.Lists.{each_of}
use Rattle.vl_design.specs.Declarations.{Kind, net, register, whole_number}
use Rattle.vl_design.specs.Scopes.{Scope}
use Rattle.vl_design.specs.Objects.{Object, objects, sight}
use Rattle.vl_design.specs.Clocks.{is_input}
use Rattle.vl_design.specs.Design.{Design, Piece, assigns, net_value, first_value, process, starts, pieces_in}
use Rattle.vl_process.specs.Connections.{Connection, connections}
use Rattle.vl_process.specs.Statement.{shown, spots, spots_width}
use Rattle.vl_process.specs.Processes.{scope_sight, has_edge, target_of}

-- ---- what a name that is written stands for

-- whether the object at a path, of a scope, is a net
abbrev pub is_net_kind : Kind → Bool
is_net_kind net = true
is_net_kind register = false
is_net_kind whole_number = false

abbrev pub is_net_in : Path → Scope → Bool
is_net_in p s = list_any (λ (o : Object). same_path (below s.level.path o.name.text) p && is_net_kind o.kind) (objects s.level)

abbrev pub is_net : List Scope → Path → Bool
is_net ss p = list_any (is_net_in p) ss

-- ---- targets

-- what may be written: a net, with constant selects alone; a variable or the word of a memory; a variable alone
pub data Written : Type 0 where
  nets : Written
  variables : Written
  registers : Written

-- what is wrong with a name's selects, whoever writes it: the same as where it is read; that a function's name isn't called there is no
-- fault of its own
abbrev pub selected_faults : Thing → Place → List Found → List Chosen → List Found
selected_faults (routine inside q sh shs) p fs ks = []
selected_faults x p fs ks = of_name (Some x) p fs ks

-- whether a thing may be written, with constant selects or with others
abbrev pub may_write : List Scope → Written → Bool → Thing → Bool
may_write ss nets fixed (signal q sh) = is_net ss q && fixed
may_write ss w fixed (signal q sh) = not (is_net ss q)
may_write ss variables fixed (memory q sh first last) = true
may_write ss w fixed x = false

-- a name that is written: its selects' faults, and BadTarget where it is none that may be
abbrev pub written_faults : List Scope → Written → Bool → Option Thing → Place → List Found → List Chosen → List Found
written_faults ss w fixed None p fs ks = at p UnknownName ∷ []
written_faults ss w fixed (Some x) p fs ks = selected_faults x p fs ks
    ++ (if may_write ss w fixed x then [] else at p BadTarget ∷ [])

-- a target in braces has 128 bits at most
abbrev mutual
  pub target_faults : List Scope → Written → Sight → Target → List Found
  target_faults ss w s (name x ks) = select_faults s ks
      ++ written_faults ss w (is_fixed s ks) (s x.text) x.place (select_faults s ks) (chosen s ks)
  target_faults ss w s (targets p ts) = all_target_faults ss w s ts
      ++ wide p (all_target_faults ss w s ts) (spots_width (spots (at_rest s) (targets p ts)))

  pub all_target_faults : List Scope → Written → Sight → Targets → List Found
  all_target_faults ss w s no_target = []
  all_target_faults ss w s (more_target g ts) = target_faults ss w s g ++ all_target_faults ss w s ts

-- What is connected to an output: a name with its selects, or such in braces. Anything else is no target, beside its own faults, of which
-- one at the same token comes first.
abbrev mutual
  pub output_faults : List Scope → Sight → Expr → List Found
  output_faults ss s (read x ks) = target_faults ss nets s (name x ks)
  output_faults ss s (concat p es) = outputs_faults ss s es ++ wide p (outputs_faults ss s es)
      (spots_width (spots (at_rest s) (target_of (concat p es))))
  output_faults ss s e = faults s e ++ at (start e) BadTarget ∷ []

  pub outputs_faults : List Scope → Sight → Exprs → List Found
  outputs_faults ss s no_expr = []
  outputs_faults ss s (more_expr e es) = output_faults ss s e ++ outputs_faults ss s es

-- ---- formats

-- a text in the number of whose arguments, and in whose items, nothing is wrong
abbrev pub is_format : Sight → Text → Exprs → Bool
is_format s f es = is_some (formatted [] f (shown (meanings (at_rest s) es)))

abbrev pub format_faults : Sight → Place → Text → Exprs → List Found
format_faults s p f es = all_faults s es ++ (if is_format s f es then [] else at p BadFormat ∷ [])

abbrev pub printed_faults : Sight → Printed → List Found
printed_faults s (format p f es) = format_faults s p f es
printed_faults s _ = []

-- the first argument of $fwrite is the number of the standard error, where it is a constant without a fault
abbrev pub is_standard_error : Meaning → Bool
is_standard_error m = own m == 2147483650

abbrev pub file_faults : Sight → Expr → List Found
file_faults s e = elim (needed_faults s e) [
  | [] ↦ if is_standard_error (constant_meaning s e) then [] else at (start e) BadFormat ∷ []
  | f ∷ fs ↦ f ∷ fs
]

abbrev pub stopped_faults : Sight → Stopped → List Found
stopped_faults s (argument e) = needed_faults s e
stopped_faults s _ = []

-- ---- statements

abbrev mutual
  pub stmt_faults : List Scope → Written → Sight → Stmt → List Found
  stmt_faults ss w s (t.empty p) = []
  stmt_faults ss w s (t.block p x bs) = all_stmt_faults ss w s bs
  stmt_faults ss w s (t.conditional bs e) = branch_faults ss w s bs ++ else_faults ss w s e
  stmt_faults ss w s (t.select p z e arms) = faults s e ++ arm_faults ss w s arms
  stmt_faults ss w s (t.loop p l b) = []
  stmt_faults ss w s (t.assign g a p e) = target_faults ss w s g ++ faults s e
  stmt_faults ss w s (t.print p k a) = printed_faults s a
  stmt_faults ss w s (t.file_print p e q f es) = file_faults s e ++ format_faults s q f es
  stmt_faults ss w s (t.stop p a) = stopped_faults s a
  stmt_faults ss w s (t.fatal p z) = []

  pub all_stmt_faults : List Scope → Written → Sight → Stmts → List Found
  all_stmt_faults ss w s no_stmt = []
  all_stmt_faults ss w s (more_stmt b bs) = stmt_faults ss w s b ++ all_stmt_faults ss w s bs

  pub branch_faults : List Scope → Written → Sight → Branches → List Found
  branch_faults ss w s no_branch = []
  branch_faults ss w s (more_branch p e b bs) = faults s e ++ (stmt_faults ss w s b ++ branch_faults ss w s bs)

  pub else_faults : List Scope → Written → Sight → Otherwise → List Found
  else_faults ss w s no_else = []
  else_faults ss w s (else_stmt b) = stmt_faults ss w s b

  pub arm_faults : List Scope → Written → Sight → Arms → List Found
  arm_faults ss w s no_arm = []
  arm_faults ss w s (more_arm es b more) = all_faults s es ++ (stmt_faults ss w s b ++ arm_faults ss w s more)
  arm_faults ss w s (default_arm p z b more) = stmt_faults ss w s b ++ arm_faults ss w s more

-- ---- pieces

abbrev pub event_faults : Sight → Event → List Found
event_faults s (sensed es) = each_of (λ (e : Sensed). faults s e.signal) es
event_faults s _ = []

-- a clocked block writes memories too, a combinational one variables alone
abbrev pub block_writes : Event → Written
block_writes e = if has_edge e then variables else registers

abbrev pub piece_faults : List Scope → Sight → Piece → List Found
piece_faults ss s (assigns d) = target_faults ss nets s d.target ++ faults s d.value
piece_faults ss s (net_value x e) = faults s e
piece_faults ss s (first_value x e) = faults s e
piece_faults ss s (process p e b) = event_faults s e ++ stmt_faults ss (block_writes e) s b
piece_faults ss s (starts p b) = stmt_faults ss variables s b
piece_faults ss s _ = []

abbrev pub connection_faults : List Scope → Connection → List Found
connection_faults ss c = if is_input (Some c.port) then faults (sight c.outer) c.value
    else output_faults ss (sight c.outer) c.value

abbrev pub scope_faults : List Scope → Scope → List Found
scope_faults ss s = each_of (connection_faults ss) (connections s)
    ++ each_of (piece_faults ss (scope_sight s)) (pieces_in s.items)

abbrev pub name_faults : Design → List Found
name_faults d = each_of (scope_faults d.scopes) d.scopes
