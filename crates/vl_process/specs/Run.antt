-- The run of a design, cycle by cycle (this project's own: one clock, two-state values). A cycle settles on one valuation; then each
-- clocked block executes once on it, and its writes make the next state.
use Rattle.std.specs.Prelude.{◌≡◌, ℕ, suc, ◌<◌, ◌==◌, Bool, not, List, [], ◌∷◌, ◌++◌, length, slice_index_or, Option}
use Rattle.dt_core.specs.Least.{least}
use Rattle.netlist.specs.Values.{Values}
use Rattle.vl_tree.specs.Syntax.{Place}
use Rattle.vl_value.specs.Paths.{Text}
use Rattle.vl_design.specs.Lists.{each_of}
use Rattle.vl_design.specs.Design.{Design}
use Rattle.vl_process.specs.Statement.{Store, Write, all_stored, Event, said, stopped}
use Rattle.vl_process.specs.Processes.{Block, blocks, starting_blocks, executed}
use Rattle.vl_process.specs.Settling.{IsVal, RowFits, by_path, by_number}

-- ---- states

-- State(0): all is 0, and then the blocks that give first values are executed in order
abbrev pub started : List Block → Store → Store
started [] m = m
started (b ∷ bs) m = started bs (executed m b).after

abbrev pub initial : Design → Values
initial d = by_number d (started (starting_blocks d) (λ p k. 0))

-- State(t+1): the state with the writes of each clocked block on Val(t), in order, so that the last write to a place wins
abbrev pub clocked_writes : Design → Values → List Write
clocked_writes d v = each_of (λ (b : Block). (executed (by_path d v) b).writes) (blocks d)

abbrev pub next : Design → Values → Values → Values
next d s v = by_number d (all_stored (clocked_writes d v) (by_path d s))

-- ---- assertions

-- an assertion that fires: the path of the scope in which its block stands, as a text; its place; whether it is spelt $fatal; its
-- message
pub record Fired : Type 0 where
  pub path : Text
  pub place : Place
  pub fatal : Bool
  pub message : Text

-- the stops of one execution; a message is the texts since the stop before, of which some are given
abbrev pub fired_in : Text → Text → List Event → List Fired
fired_in p u [] = []
fired_in p u (said more ∷ es) = fired_in p (u ++ more) es
fired_in p u (stopped q f ∷ es) = record { path = p; place = q; fatal = f; message = u } ∷ fired_in p [] es

abbrev pub block_fires : Design → Values → Block → List Fired
block_fires d v b = fired_in b.station.path [] (executed (by_path d v) b).events

-- the assertions that fire in a cycle that settled at v, in order of the blocks, then of execution
abbrev pub fires : Design → Values → List Fired
fires d v = each_of (block_fires d v) (blocks d)

-- ---- runs

abbrev pub row_at : List (List ℕ) → ℕ → List ℕ
row_at rows k = slice_index_or rows k []

abbrev pub RowsFit : Design → List (List ℕ) → Type 0
RowsFit d rows = (k : ℕ) → k < length rows → RowFits d (row_at rows k)

-- states and valuations of a run over rows: the start, and in each cycle the one valuation that settles, and the next state
pub record IsRun (d : Design) (rows : List (List ℕ)) (states vals : ℕ → Values) : Type 0 where
  pub start : states 0 ≡ initial d
  pub settled : (k : ℕ) → k < length rows → IsVal d (states k) (row_at rows k) (vals k)
  pub next_states : (k : ℕ) → k < length rows → states (suc k) ≡ next d (states k) (vals k)

-- the least of so many cycles in which an assertion fires
abbrev pub first_failure : Design → (ℕ → Values) → ℕ → Option ℕ
first_failure d vals n = least (λ k. not (length (fires d (vals k)) == 0)) n
