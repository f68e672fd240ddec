-- A run of a numbered design is the run of the design for which it stands. This project's own.
use Rattle.std.specs.Prelude.{◌≡◌, ℕ, ◌<◌, List, length}
use Rattle.netlist.specs.Design.{Flat}
use Rattle.netlist.specs.Fits.{IsWellFormed}
use Rattle.netlist.specs.Order.{IsOrder}
use Rattle.netlist.specs.Values.{Values}
use Rattle.netlist.specs.Run.{State, flat_fired}
use Rattle.vl_design.specs.Design.{Design}
use Rattle.vl_process.specs.Run.{IsRun, RowsFit, fires}
use Rattle.vl_process.specs.StandsFor.{StandsFor, whole_state, all_fired_by}
use Rattle.vl_process.specs.Laws.{IsFlatRun}
use Rattle.vl_store.specs.Stores.{PathsAreDistinct}
use Rattle.vl_run_laws.specs.Given.{InputsAreSignals}

-- states and values of a numbered design's run are those of the design's, and the same assertions fire in each cycle
pub record RunsAlike (f : Flat) (d : Design) (rows : List (List ℕ)) (states : ℕ → State) (values : ℕ → Values) : Type 0 where
  pub is_run : IsRun d rows (λ k. whole_state f (states k)) values
  pub fired : (k : ℕ) → k < length rows → all_fired_by f (flat_fired f (values k)) ≡ fires d (values k)

-- a law: so it is over rows that fit, where the numbered design has an order, no two objects have one path and inputs are signals
abbrev pub RunningLaw : Type 0
RunningLaw = (f : Flat) (d : Design) (order : List ℕ) (rows : List (List ℕ)) (states : ℕ → State) (values : ℕ → Values)
    → IsWellFormed f → StandsFor f d → PathsAreDistinct d → InputsAreSignals d → IsOrder f order → RowsFit d rows
    → IsFlatRun f rows states values → RunsAlike f d rows states values
