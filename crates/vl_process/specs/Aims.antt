-- The bits that a target, a statement and a driver may write (this project's own): of a select at a constant place its own, of
-- another one all bits of the vector.
use Rattle.std.specs.Prelude.{ℕ, ◌==◌, Bool, ◌&&◌, List, [], ◌∷◌, ◌++◌, Option, Some}
use Rattle.std.specs.List.{list_any}
use Rattle.vl_tree.specs.Syntax as t
use Rattle.vl_tree.specs.Syntax.{Place, Target, Targets, name, targets, no_target, more_target, Stmt, Stmts, no_stmt, more_stmt, Branches, no_branch, more_branch, Otherwise, no_else, else_stmt, Arms, no_arm, more_arm, default_arm}
use Rattle.vl_value.specs.Paths.{Path, same_path}
use Rattle.vl_value.specs.Things.{Thing, signal, memory}
use Rattle.vl_value.specs.Meaning.{at_rest, Picked, picked}
use Rattle.vl_value.specs.Constant.{Sight, is_fixed}
use Rattle.vl_value.specs.Reads.{places}
use Rattle.vl_design.specs.Lists.{each_of}
use Rattle.vl_process.specs.Statement.{turns, turn_sights}

-- bits of a net or a variable, and where the name stands; a memory counts as one bit, since one block may write it
pub record Aimed : Type 0 where
  pub path : Path
  pub places : List ℕ
  pub place : Place

abbrev pub aimed_at : Place → Option Thing → Bool → List Picked → List Aimed
aimed_at q (Some (signal p sh)) f ks = record { path = p; places = places sh f ks; place = q } ∷ []
aimed_at q (Some (memory p sh first last)) f ks = record { path = p; places = 0 ∷ []; place = q } ∷ []
aimed_at q _ f ks = []

abbrev mutual
  pub aims : Sight → Target → List Aimed
  aims s (name x ks) = aimed_at x.place (s x.text) (is_fixed s ks) (picked (at_rest s) ks)
  aims s (targets p ts) = all_aims s ts

  pub all_aims : Sight → Targets → List Aimed
  all_aims s no_target = []
  all_aims s (more_target g ts) = aims s g ++ all_aims s ts

-- a statement in each turn of a loop, a case in each arm
abbrev mutual
  pub may_assign : Sight → Stmt → List Aimed
  may_assign s (t.block p x ss) = all_may_assign s ss
  may_assign s (t.conditional bs e) = branches_may_assign s bs ++ else_may_assign s e
  may_assign s (t.select p z e arms) = arms_may_assign s arms
  may_assign s (t.loop p l b) = each_of (λ u. may_assign u b) (turn_sights s l (turns s l))
  may_assign s (t.assign g a p e) = aims s g
  may_assign s _ = []

  pub all_may_assign : Sight → Stmts → List Aimed
  all_may_assign s no_stmt = []
  all_may_assign s (more_stmt b ss) = may_assign s b ++ all_may_assign s ss

  pub branches_may_assign : Sight → Branches → List Aimed
  branches_may_assign s no_branch = []
  branches_may_assign s (more_branch p e b bs) = may_assign s b ++ branches_may_assign s bs

  pub else_may_assign : Sight → Otherwise → List Aimed
  else_may_assign s no_else = []
  else_may_assign s (else_stmt b) = may_assign s b

  pub arms_may_assign : Sight → Arms → List Aimed
  arms_may_assign s no_arm = []
  arms_may_assign s (more_arm es b more) = may_assign s b ++ arms_may_assign s more
  arms_may_assign s (default_arm p z b more) = may_assign s b ++ arms_may_assign s more

-- whether one of the aims has the bit at a place
abbrev pub has_place : List ℕ → ℕ → Bool
has_place ns k = list_any (λ n. n == k) ns

abbrev pub has_bit : Path → ℕ → Aimed → Bool
has_bit p k a = same_path a.path p && has_place a.places k

abbrev pub is_aimed : List Aimed → Path → ℕ → Bool
is_aimed as' p k = list_any (has_bit p k) as'
