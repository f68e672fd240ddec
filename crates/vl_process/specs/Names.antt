-- The names that an expression, a target and a statement read, each where it stands (IEEE 1364-2005, A.8.4, A.8.5, A.6). The
-- name that a target writes isn't read, those in its selects are.
use Rattle.std.specs.Prelude.{List, [], ◌∷◌, ◌++◌}
use Rattle.vl_tree.specs.Syntax as t
use Rattle.vl_tree.specs.Syntax.{Name, Expr, number, read, call, system, group, concat, repeat, unary, chain, choose, Exprs, no_expr, more_expr, Links, no_link, more_link, Choices, no_choice, more_choice, Selects, no_select, more_select, Select, index, part, upward, downward, Target, Targets, name, targets, no_target, more_target, Printed, bare, empty_list, format, Stopped, no_argument, empty_argument, argument, Stmt, Stmts, no_stmt, more_stmt, Branches, no_branch, more_branch, Otherwise, no_else, else_stmt, Arms, no_arm, more_arm, default_arm}

abbrev mutual
  pub expr_names : Expr → List Name
  expr_names (number p l) = []
  expr_names (read x ks) = x ∷ select_names ks
  expr_names (call f es) = all_names es
  expr_names (system p f e) = expr_names e
  expr_names (group p e) = expr_names e
  expr_names (concat p es) = all_names es
  expr_names (repeat p n es) = expr_names n ++ all_names es
  expr_names (unary p f e) = expr_names e
  expr_names (chain e ls) = expr_names e ++ link_names ls
  expr_names (choose hs e) = choice_names hs ++ expr_names e

  pub all_names : Exprs → List Name
  all_names no_expr = []
  all_names (more_expr e es) = expr_names e ++ all_names es

  pub link_names : Links → List Name
  link_names no_link = []
  link_names (more_link f p e ls) = expr_names e ++ link_names ls

  pub choice_names : Choices → List Name
  choice_names no_choice = []
  choice_names (more_choice e p a hs) = expr_names e ++ (expr_names a ++ choice_names hs)

  pub select_names : Selects → List Name
  select_names no_select = []
  select_names (more_select p k ks) = index_names k ++ select_names ks

  pub index_names : Select → List Name
  index_names (index e) = expr_names e
  index_names (part a b) = expr_names a ++ expr_names b
  index_names (upward b w) = expr_names b ++ expr_names w
  index_names (downward b w) = expr_names b ++ expr_names w

abbrev mutual
  pub target_names : Target → List Name
  target_names (name x ks) = select_names ks
  target_names (targets p ts) = all_target_names ts

  pub all_target_names : Targets → List Name
  all_target_names no_target = []
  all_target_names (more_target g ts) = target_names g ++ all_target_names ts

abbrev pub printed_names : Printed → List Name
printed_names bare = []
printed_names empty_list = []
printed_names (format p f es) = all_names es

abbrev pub stopped_names : Stopped → List Name
stopped_names no_argument = []
stopped_names empty_argument = []
stopped_names (argument e) = expr_names e

-- of a loop those of its body; its header reads constants
abbrev mutual
  pub stmt_names : Stmt → List Name
  stmt_names (t.empty p) = []
  stmt_names (t.block p x ss) = all_stmt_names ss
  stmt_names (t.conditional bs e) = branch_names bs ++ else_names e
  stmt_names (t.select p z e arms) = expr_names e ++ arm_names arms
  stmt_names (t.loop p l s) = stmt_names s
  stmt_names (t.assign g a p e) = target_names g ++ expr_names e
  stmt_names (t.print p k a) = printed_names a
  stmt_names (t.file_print p e q f es) = expr_names e ++ all_names es
  stmt_names (t.stop p a) = stopped_names a
  stmt_names (t.fatal p z) = []

  pub all_stmt_names : Stmts → List Name
  all_stmt_names no_stmt = []
  all_stmt_names (more_stmt s ss) = stmt_names s ++ all_stmt_names ss

  pub branch_names : Branches → List Name
  branch_names no_branch = []
  branch_names (more_branch p e s bs) = expr_names e ++ (stmt_names s ++ branch_names bs)

  pub else_names : Otherwise → List Name
  else_names no_else = []
  else_names (else_stmt s) = stmt_names s

  pub arm_names : Arms → List Name
  arm_names no_arm = []
  arm_names (more_arm es s more) = all_names es ++ (stmt_names s ++ arm_names more)
  arm_names (default_arm p z s more) = stmt_names s ++ arm_names more
