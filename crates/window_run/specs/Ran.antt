-- How far a run over rows has come. This project's own.
use Rattle.std.specs.Prelude.{◌≡◌, ◌≢◌, ℕ, suc, ◌+◌, ◌<◌, min, List, [], length, take, Option, Some, None}
use Rattle.netlist.specs.Design.{Flat}
use Rattle.netlist.specs.Fits.{IsWellFormed}
use Rattle.netlist.specs.Order.{IsOrder}
use Rattle.packed_rows.specs.Kept.{last_ones}
use Rattle.held_state.specs.Back.{GoesBack}
use Rattle.window_run.specs.Over.{state_at, fired_at}
use Rattle.window_run.specs.Progress.{Failure, Progress}

-- no assertion fires in these rows; or this is the first cycle in which some do, and what fires there
abbrev pub IsFirst : Flat → List ℕ → List (List ℕ) → Option Failure → Type 0
IsFirst f order rows None = (t : ℕ) → t < length rows → fired_at f order rows t ≡ []
IsFirst f order rows (Some x) = (x.cycle < length rows) × (x.fired ≡ fired_at f order rows x.cycle) × (x.fired ≢ [])
    × ((t : ℕ) → t < x.cycle → fired_at f order rows t ≡ [])

-- the cycle that comes next, or that of the failure; and how many rows were run up to it
abbrev pub cycle_of : List (List ℕ) → Option Failure → ℕ
cycle_of rows None = length rows
cycle_of rows (Some x) = x.cycle

abbrev pub rows_run : List (List ℕ) → Option Failure → ℕ
rows_run rows None = length rows
rows_run rows (Some x) = suc x.cycle

-- the simulator stands at that cycle; the last rows that were run are kept, and notes that lead back over the cycles before
pub record Keeps (f : Flat) (order : List ℕ) (rows : List (List ℕ)) (p : Progress) : Type 0 where
  pub cycle_is : p.at.cycle ≡ cycle_of rows p.failure
  pub state_is : p.at.state ≡ state_at f order rows (cycle_of rows p.failure)
  pub rows_are : p.kept.rows ≡ last_ones (p.lag + 1) (take (rows_run rows p.failure) rows)
  pub count : length p.log.cycles ≡ min (p.lag + 1) (cycle_of rows p.failure)
  pub back : GoesBack f (state_at f order rows) (cycle_of rows p.failure) p.log.cycles

-- the run has taken all of these rows of the design, which has this order
pub record RanTo (f : Flat) (order : List ℕ) (rows : List (List ℕ)) (p : Progress) : Type 0 where
  pub flat : p.flat ≡ f
  pub fits : IsWellFormed f
  pub ordered : IsOrder f order
  pub taken : p.cycles ≡ length rows
  pub first : IsFirst f order rows p.failure
  pub keeps : Keeps f order rows p
