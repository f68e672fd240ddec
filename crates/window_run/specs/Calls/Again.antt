-- What running the last cycles again promises. This project's own.
use Rattle.std.specs.Prelude.{◌≡◌, ℕ, ◌+◌, ◌<◌, List, [], length, slice_index_or, Option, Result, Ok, Err}
use Rattle.std.specs.Io.KnownBytes.{Appends}
use Rattle.netlist.specs.Design.{Flat}
use Rattle.netlist.specs.Fits.{IsWellFormed}
use Rattle.netlist.specs.Order.{IsOrder}
use Rattle.netlist.specs.Run.{State}
use Rattle.state_changes.specs.Log.{Log}
use Rattle.state_changes.specs.declared.changes.Change.{Change}
use Rattle.held_state.specs.Back.{GoesBack}
use Rattle.flat_sim.specs.Moment.{Moment}
use Rattle.waveform.specs.Writer.{Writer, HasWritten}
use Rattle.waveform.specs.declared.fault.VcdFault.{VcdFault}
use Rattle.window_run.specs.Over.{state_at, shown_at}
use Rattle.window_run.specs.Window.{from_on, wave_of, Waves}

-- the simulator has the state of its cycle, and the notes lead back from it
pub record HasCome (states : ℕ → State) (sim : Moment) (log : Log Change) : Type 0 where
  pub state : sim.state ≡ states sim.cycle
  pub back : GoesBack sim.flat states sim.cycle log.cycles

-- these are the rows of the cycles from the first one on
abbrev pub AreFrom : List (List ℕ) → ℕ → List (List ℕ) → Type 0
AreFrom rows first kept = (i : ℕ) → i < length kept → slice_index_or kept i [] ≡ slice_index_or rows (first + i) []

-- the simulator stands at a cycle of the rows
pub record StandsAt (f : Flat) (order : List ℕ) (rows : List (List ℕ)) (cycle : ℕ) (sim : Moment) : Type 0 where
  pub flat : sim.flat ≡ f
  pub fits : IsWellFormed f
  pub ordered : IsOrder f order
  pub cycle_is : sim.cycle ≡ cycle
  pub state : sim.state ≡ state_at f order rows cycle

-- n cycles from the first one on were written to a sink, and the simulator stands at the next
pub record HasWaved (f : Flat) (order : List ℕ) (rows : List (List ℕ)) (first n : ℕ) (old now : Option (List ℕ))
    (before count : ℕ) (sim : Moment) (w : Writer) : Type 0 where
  pub stands : StandsAt f order rows (first + n) sim
  pub written : HasWritten w (from_on (shown_at f order rows) first n)
  pub took : Appends old now (wave_of f order rows first n)
  pub counted : count ≡ before

-- the same, or a front of their waveform was written
abbrev pub Goes : Flat → List ℕ → List (List ℕ) → ℕ → ℕ → Option (List ℕ) → Option (List ℕ) → ℕ → ℕ → Moment → Writer
    → Result (Unit {0}) VcdFault → Type 0
Goes f order rows first n old now before count sim w (Ok u) = HasWaved f order rows first n old now before count sim w
Goes f order rows first n old now before count sim w (Err e) =
    Waves old now before count (wave_of f order rows first n) (Err e)
