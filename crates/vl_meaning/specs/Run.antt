-- The run of a module, cycle by cycle (this project's own: one clock, two-state values). It speaks of names alone.
-- In a cycle the names have one valuation; the clocked block executes once on it, and its writes make the next state.
use Rattle.std.specs.Prelude.{ℕ, zero, suc, ◌==◌, not, List, [], ◌∷◌, ◌++◌, map, length, slice_index_or, Option}
use Rattle.dt_core.specs.Least.{least}
use Rattle.flat_ir.specs.Fired.{Fired, fired_in}
use Rattle.vl_tree.specs.Tree.{Text, Module}
use Rattle.vl_meaning.specs.Objects.{data_inputs, registers}
use Rattle.vl_meaning.specs.Expression.{Cell, Values}
use Rattle.vl_meaning.specs.Statement.{Outcome, execute_all, all_stored}

-- a name with a number
abbrev pub cell : Text → ℕ → Cell
cell x n = record { name = x; value = n }

-- names with numbers, in order
abbrev pub cells : List Text → List ℕ → Values
cells (x ∷ xs) (n ∷ ns) = cell x n ∷ cells xs ns
cells _ _ = []

-- State(0): each register is 0
abbrev pub initial : Module → Values
initial m = map (λ x. cell x 0) (registers m)

-- Val(t): the registers are those of the state, the data inputs those of the row, and the clock is 0
abbrev pub val : Module → List ℕ → Values → Values
val m row s = cell m.clock 0 ∷ (cells (data_inputs m) row ++ s)

-- the clocked block, executed on Val(t)
abbrev pub executed : Module → List ℕ → Values → Outcome
executed m row s = execute_all (record { ports = m.ports; values = val m row s }) m.body

-- State(t+1): the state with the writes of the clocked block, the last write to a name winning
abbrev pub next : Module → List ℕ → Values → Values
next m row s = all_stored (executed m row s).writes s

-- the state of a cycle, where a row stands for each cycle
abbrev pub state : Module → List (List ℕ) → ℕ → Values
state m rows zero = initial m
state m rows (suc t) = next m (slice_index_or rows t []) (state m rows t)

-- the assertions that fire with a row in a state, in order of execution, each with its message
abbrev pub fired : Module → List ℕ → Values → List Fired
fired m row s = fired_in [] (executed m row s).events

-- the assertions that fire in a cycle
abbrev pub fires : Module → List (List ℕ) → ℕ → List Fired
fires m rows t = fired m (slice_index_or rows t []) (state m rows t)

-- the least cycle of the rows in which an assertion fires
abbrev pub first_failure : Module → List (List ℕ) → Option ℕ
first_failure m rows = least (λ t. not (length (fires m rows t) == 0)) (length rows)
