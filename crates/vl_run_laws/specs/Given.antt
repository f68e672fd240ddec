-- What the state and the row say of a signal is the same in a numbered design and in the design for which it stands. This project's own.
use Rattle.std.specs.Prelude.{◌≡◌, ℕ, List, slice_get, slice_index, Some}
use Rattle.netlist.specs.Design.{Flat}
use Rattle.netlist.specs.Fits.{IsWellFormed}
use Rattle.netlist.specs.Run.{State, given}
use Rattle.vl_design.specs.Design.{Design, Signal}
use Rattle.vl_process.specs.Settling.{RowFits, said_of}
use Rattle.vl_process.specs.StandsFor.{StandsFor, whole_state}
use Rattle.vl_store.specs.Stores.{PathsAreDistinct}

-- a signal of a number
pub record HasSignal (d : Design) (x : Signal) : Type 0 where
  pub number : ℕ
  pub at : slice_get d.signals number ≡ Some x

-- each data input is one of the signals
abbrev pub InputsAreSignals : Design → Type 0
InputsAreSignals d = (k : ℕ) (x : Signal) → slice_get d.inputs k ≡ Some x → HasSignal d x

-- a law: so it is in a well-formed numbered design, where no two objects have one path and inputs are signals
abbrev pub GivenLaw : Type 0
GivenLaw = (f : Flat) (d : Design) (s : State) (row : List ℕ) (t : ℕ) (x : Signal) → IsWellFormed f → StandsFor f d
    → PathsAreDistinct d → InputsAreSignals d → RowFits d row → slice_get d.signals t ≡ Some x
    → slice_index (given f s row) t ≡ said_of d row x (slice_index (whole_state f s).signals t)
