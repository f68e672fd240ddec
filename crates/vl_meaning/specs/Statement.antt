-- The execution of a statement (IEEE 1364-2005, 9.2.2, 9.4 and 9.8.1; `$display` 17.1.1): its nonblocking writes and its events, in order.
-- A nonblocking assignment is only listed, so all statements of a block read the same values. That `$stop` is an assertion, after which
-- the block goes on, is this project's own.
use Rattle.std.specs.Prelude.{ℕ, true, false, if◌then◌else◌, List, [], ◌∷◌, ◌++◌, Option, Some, None, bytes_eq}
use Rattle.bit_ops.specs.Operators.{holds}
use Rattle.flat_ir.specs.Format.{format_text}
use Rattle.flat_ir.specs.Fired.{Event, said, stopped}
use Rattle.vl_tree.specs.Tree.{Text, Stmt, block, conditional, assign, display, stop, Stmts, no_stmt, more_stmt, Branches, no_branch, more_branch, Otherwise, no_else, else_stmt}
use Rattle.vl_meaning.specs.Objects.{width_of}
use Rattle.vl_meaning.specs.Expression.{Values, value_at, Context, own, assigned, meaning}

-- ---- writes

-- a name and the number that it takes
pub record Write : Type 0 where
  pub name : Text
  pub value : ℕ

-- the values with one write done
abbrev pub stored : Write → Values → Values
stored w [] = []
stored w (c ∷ cs) = if bytes_eq c.name w.name then record c { value = w.value } ∷ cs else c ∷ stored w cs

-- writes done in order, so that the last one to a name wins
abbrev pub all_stored : List Write → Values → Values
all_stored [] v = v
all_stored (w ∷ ws) v = all_stored ws (stored w v)

-- ---- outcomes

pub record Outcome : Type 0 where
  pub writes : List Write
  pub events : List Event

abbrev pub quiet : Outcome
quiet = record { writes = []; events = [] }

-- one outcome and then another
abbrev pub followed : Outcome → Outcome → Outcome
followed o p = record { writes = o.writes ++ p.writes; events = o.events ++ p.events }

abbrev pub writes : Text → ℕ → Outcome
writes x n = record { writes = record { name = x; value = n } ∷ []; events = [] }

abbrev pub happens : Event → Outcome
happens e = record { writes = []; events = e ∷ [] }

-- the argument of a format, if there is one: self-determined, which a name's value is
abbrev pub argument : Context → Option Text → List ℕ
argument c None = []
argument c (Some x) = value_at c.values x ∷ []

-- ---- statements

abbrev mutual
  pub execute : Context → Stmt → Outcome
  execute c (block ss) = execute_all c ss
  execute c (conditional bs o) = execute_branches c bs (execute_else c o)
  execute c (assign x e) = writes x (assigned (width_of c.ports x) (meaning c e))
  execute c (display f x) = happens (said (format_text f (argument c x) ++ 10 ∷ []))
  execute c (stop line) = happens (stopped line)

  pub execute_all : Context → Stmts → Outcome
  execute_all c no_stmt = quiet
  execute_all c (more_stmt s ss) = followed (execute c s) (execute_all c ss)

  -- the first branch whose condition holds, else what is given (9.4)
  pub execute_branches : Context → Branches → Outcome → Outcome
  execute_branches c no_branch o = o
  execute_branches c (more_branch e s bs) o = elim (holds (own (meaning c e))) [ true ↦ execute c s | false ↦ execute_branches c bs o ]

  -- the last part, which may be missing
  pub execute_else : Context → Otherwise → Outcome
  execute_else c no_else = quiet
  execute_else c (else_stmt s) = execute c s
