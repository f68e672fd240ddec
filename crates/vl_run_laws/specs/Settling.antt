-- The same values settle with a numbered design and with the design for which it stands. This project's own.
use Rattle.std.specs.Prelude.{◌↔◌, ℕ, List}
use Rattle.netlist.specs.Design.{Flat}
use Rattle.netlist.specs.Fits.{IsWellFormed}
use Rattle.netlist.specs.Values.{Values}
use Rattle.netlist.specs.Run.{State, FlatSettles}
use Rattle.vl_design.specs.Design.{Design}
use Rattle.vl_process.specs.Settling.{Settles, RowFits}
use Rattle.vl_process.specs.StandsFor.{StandsFor, StateFits, whole_state}
use Rattle.vl_store.specs.Stores.{PathsAreDistinct}
use Rattle.vl_run_laws.specs.Given.{InputsAreSignals}

-- a law: so it is over a state and a row that fit, where no two objects have one path and inputs are signals
abbrev pub SettlingLaw : Type 0
SettlingLaw = (f : Flat) (d : Design) (s : State) (row : List ℕ) (v : Values) → IsWellFormed f → StandsFor f d
    → PathsAreDistinct d → InputsAreSignals d → StateFits f s → RowFits d row
    → FlatSettles f s row v ↔ Settles d (whole_state f s) row v
