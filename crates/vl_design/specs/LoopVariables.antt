-- Loop variables: the variables of `for` statements, which are no signals (this project's own; 9.6 of IEEE 1364-2005 has them
-- as any variable).
use Rattle.std.specs.Prelude.{Bool, true, false, not, List, [], ◌∷◌, ◌++◌, filter, Option, Some}
use Rattle.std.specs.List.{list_any}
use Rattle.vl_tree.specs.Syntax.{Stmt, Stmts, Branches, Otherwise, Arms, block, conditional, select, loop, no_stmt, more_stmt, no_branch, more_branch, no_else, else_stmt, no_arm, more_arm, default_arm, Item, Items, always, initial, function, region, no_item, more_item, Function}
use Rattle.vl_value.specs.Paths.{Text, Path, same_path, below}
use Rattle.vl_value.specs.Things.{Thing, signal}
use Rattle.vl_value.specs.Constant.{Sight}
use Rattle.vl_design.specs.Declarations.{Declared, routine}
use Rattle.vl_design.specs.Lists.{each_of}
use Rattle.vl_design.specs.Scopes.{Scope, levels}
use Rattle.vl_design.specs.Objects.{counted, Object, objects, sight, body_sight, first_named}

-- names of the variables of `for` statements
abbrev mutual
  pub loop_names : Stmt → List Text
  loop_names (block p x ss) = all_loop_names ss
  loop_names (conditional bs e) = branch_loop_names bs ++ else_loop_names e
  loop_names (select p z e arms) = arm_loop_names arms
  loop_names (loop p l s) = l.variable.text ∷ loop_names s
  loop_names _ = []

  pub all_loop_names : Stmts → List Text
  all_loop_names no_stmt = []
  all_loop_names (more_stmt s ss) = loop_names s ++ all_loop_names ss

  pub branch_loop_names : Branches → List Text
  branch_loop_names no_branch = []
  branch_loop_names (more_branch p e s bs) = loop_names s ++ branch_loop_names bs

  pub else_loop_names : Otherwise → List Text
  else_loop_names no_else = []
  else_loop_names (else_stmt s) = loop_names s

  pub arm_loop_names : Arms → List Text
  arm_loop_names no_arm = []
  arm_loop_names (more_arm es s arms) = loop_names s ++ arm_loop_names arms
  arm_loop_names (default_arm p c s arms) = loop_names s ++ arm_loop_names arms

-- the net or variable that a name stands for
abbrev pub object_path : Option Thing → List Path
object_path (Some (signal p sh)) = p ∷ []
object_path _ = []

abbrev pub paths_in : Sight → List Text → List Path
paths_in s xs = each_of (λ x. object_path (s x)) xs

abbrev pub is_routine : Declared → Bool
is_routine (routine r) = true
is_routine _ = false

-- what is in sight in the body of a function of a scope
abbrev pub function_sight : Scope → Function → Sight
function_sight s f = elim (first_named is_routine f.name.text (counted s.level)) [
  | Some (routine r) ↦ body_sight s.level s.outer r
  | _ ↦ sight (levels s)
]

abbrev mutual
  pub looped_by : Scope → Item → List Path
  looped_by s (always p e b) = paths_in (sight (levels s)) (loop_names b)
  looped_by s (initial p b) = paths_in (sight (levels s)) (loop_names b)
  looped_by s (function f) = paths_in (function_sight s f) (loop_names f.body)
  looped_by s (region p is) = looped_in s is
  looped_by s _ = []

  pub looped_in : Scope → Items → List Path
  looped_in s no_item = []
  looped_in s (more_item i is) = looped_by s i ++ looped_in s is

abbrev pub loop_variables : List Scope → List Path
loop_variables ss = each_of (λ (s : Scope). looped_in s s.items) ss

abbrev pub is_path_in : List Path → Path → Bool
is_path_in ps p = list_any (same_path p) ps

-- the signals of a scope: its nets and variables that are no loop variables
abbrev pub signals_of : List Path → Scope → List Object
signals_of loops s = filter (λ (o : Object). not (is_path_in loops (below s.level.path o.name.text))) (objects s.level)
