-- Which designs aren't built yet, by the constructs that stand in their instances (this project's own; the list gets shorter): memories,
-- first values of variables, `initial` blocks, functions, combinational blocks; and in blocks
-- `case`, `for`, `$write`, `$fwrite`, `$fatal`, and targets in braces or with a select at a place that varies.
use Rattle.std.specs.Prelude.{Bool, true, false, ◌||◌, not}
use Rattle.std.specs.List.{list_any}
use Rattle.vl_tree.specs.Syntax as t
use Rattle.vl_tree.specs.Syntax.{Target, name, targets, Print, display, write, Stmt, Stmts, no_stmt, more_stmt, Branches, no_branch, more_branch, Otherwise, no_else, else_stmt, Event, Variable, variable, valued, memory, Item, Items, no_item, more_item, registers, integer, always, initial, function, region}
use Rattle.vl_value.specs.Constant.{Sight, is_fixed}
use Rattle.vl_design.specs.Scopes.{Scope}
use Rattle.vl_design.specs.Design.{Design}
use Rattle.vl_process.specs.Processes.{scope_sight, has_edge}

abbrev pub is_late_target : Sight → Target → Bool
is_late_target s (name x ks) = not (is_fixed s ks)
is_late_target s (targets p ts) = true

abbrev pub is_late_print : Print → Bool
is_late_print display = false
is_late_print write = true

abbrev mutual
  pub is_late_stmt : Sight → Stmt → Bool
  is_late_stmt s (t.empty p) = false
  is_late_stmt s (t.block p x ss) = has_late_stmt s ss
  is_late_stmt s (t.conditional bs e) = has_late_branch s bs || is_late_else s e
  is_late_stmt s (t.select p z e arms) = true
  is_late_stmt s (t.loop p l b) = true
  is_late_stmt s (t.assign g a p e) = is_late_target s g
  is_late_stmt s (t.print p k a) = is_late_print k
  is_late_stmt s (t.file_print p e q f es) = true
  is_late_stmt s (t.stop p a) = false
  is_late_stmt s (t.fatal p z) = true

  pub has_late_stmt : Sight → Stmts → Bool
  has_late_stmt s no_stmt = false
  has_late_stmt s (more_stmt b ss) = is_late_stmt s b || has_late_stmt s ss

  pub has_late_branch : Sight → Branches → Bool
  has_late_branch s no_branch = false
  has_late_branch s (more_branch p e b bs) = is_late_stmt s b || has_late_branch s bs

  pub is_late_else : Sight → Otherwise → Bool
  is_late_else s no_else = false
  is_late_else s (else_stmt b) = is_late_stmt s b

-- a combinational block
abbrev pub is_late_event : Event → Bool
is_late_event e = not (has_edge e)

abbrev pub is_late_variable : Variable → Bool
is_late_variable (variable x) = false
is_late_variable _ = true

abbrev mutual
  pub is_late : Sight → Item → Bool
  is_late s (registers p g r vs) = list_any is_late_variable vs
  is_late s (integer p vs) = list_any is_late_variable vs
  is_late s (always p e b) = is_late_event e || is_late_stmt s b
  is_late s (initial p b) = true
  is_late s (function f) = true
  is_late s (region p is) = has_late s is
  is_late s _ = false

  pub has_late : Sight → Items → Bool
  has_late s no_item = false
  has_late s (more_item i is) = is_late s i || has_late s is

-- whether some instance or generate scope holds such a construct
abbrev pub is_not_built : Design → Bool
is_not_built d = list_any (λ (s : Scope). has_late (scope_sight s) s.items) d.scopes
