-- Where a run of a numbered design stands. This project's own.
use Rattle.std.specs.Prelude.{ℕ, Option}
use Rattle.netlist.specs.Design.{Flat}
use Rattle.netlist.specs.Run.{State}
use Rattle.netlist.specs.Values.{Values}

-- a design, the cycle from 0, the state of the cycle, and once the cycle has settled its values
pub record Moment : Type 0 where
  pub flat : Flat
  pub cycle : ℕ
  pub state : State
  pub values : Option Values
