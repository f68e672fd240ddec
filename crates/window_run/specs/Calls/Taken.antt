-- What a cycle does to a run. This project's own.
use Rattle.std.specs.Prelude.{◌≡◌, ◌≢◌, ℕ, ◌+◌, List, [], Option, Some, None}
use Rattle.netlist.specs.Run.{FlatSettles, flat_next, flat_fired}
use Rattle.netlist.specs.Values.{Values}
use Rattle.state_changes.specs.Log.{Log}
use Rattle.state_changes.specs.declared.changes.Change.{Change}
use Rattle.held_state.specs.Back.{Notes}
use Rattle.flat_sim.specs.Moment.{Moment}
use Rattle.window_run.specs.Progress.{Failure}

-- a cycle settles at these values, and nothing fires: the state goes on, and what changes is noted
pub record GoesOn (row : List ℕ) (v : Values) (old new : Moment) (log log' : Log Change) : Type 0 where
  pub settles : FlatSettles old.flat old.state row v
  pub quiet : flat_fired old.flat v ≡ []
  pub cycle : new.cycle ≡ old.cycle + 1
  pub state : new.state ≡ flat_next old.flat old.state v
  pub notes : Notes old.flat old.state new.state log.most log.cycles log'.cycles

-- or this fires in it, and all stands
pub record Fails (row : List ℕ) (v : Values) (x : Failure) (old new : Moment) (log log' : Log Change) : Type 0 where
  pub settles : FlatSettles old.flat old.state row v
  pub number : x.cycle ≡ old.cycle
  pub fired : x.fired ≡ flat_fired old.flat v
  pub some : x.fired ≢ []
  pub cycle : new.cycle ≡ old.cycle
  pub state : new.state ≡ old.state
  pub notes : log'.cycles ≡ log.cycles

abbrev pub Takes : List ℕ → Moment → Moment → Log Change → Log Change → Option Failure → Type 0
Takes row old new log log' None = (v : Values) × GoesOn row v old new log log'
Takes row old new log log' (Some x) = (v : Values) × Fails row v x old new log log'
