-- What contracts see of a run over rows. This project's own.
use Rattle.std.specs.Prelude.{ℕ, List, Option}
use Rattle.netlist.specs.Design.{Flat}
use Rattle.netlist.specs.Run.{Fired}
use Rattle.state_changes.specs.Log.{Log}
use Rattle.state_changes.specs.declared.changes.Change.{Change}
use Rattle.packed_rows.specs.Kept.{Kept}
use Rattle.flat_sim.specs.Moment.{Moment}

-- the first failure: its cycle, from 0, and the assertions that fired in it
pub record Failure : Type 0 where
  pub cycle : ℕ
  pub fired : List Fired

-- a design, how many cycles its windows have before the failure's, how many rows were taken, and the first failure, if
-- there was one; and where the simulator stands, what its last cycles changed, and the last rows
pub record Progress : Type 0 where
  pub flat : Flat
  pub lag : ℕ
  pub cycles : ℕ
  pub failure : Option Failure
  pub at : Moment
  pub log : Log Change
  pub kept : Kept
