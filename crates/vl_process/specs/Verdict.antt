-- What a source is: a design without a fault of phases 4 to 8, or the least fault of the first phase that has one, or a design that
-- isn't built yet. This project's own. What stands in no instance isn't looked at.
use Rattle.std.specs.Prelude.{if◌then◌else◌, ◌++◌, Option, Some, None, Ok, Err}
use Rattle.dt_core.specs.declared.limits.TheConstants.{MAX_STATEMENTS}
use Rattle.vl_tree.specs.Fault.{Fault}
use Rattle.vl_tree.specs.Syntax.{Source}
use Rattle.vl_value.specs.Paths.{Text}
use Rattle.vl_design.specs.Limits.{Limits}
use Rattle.vl_design.specs.Design.{Design, elaborated, then_phase}
use Rattle.vl_process.specs.NameFaults.{name_faults}
use Rattle.vl_process.specs.BlockFaults.{block_faults}
use Rattle.vl_process.specs.DriverFaults.{driver_faults}
use Rattle.vl_process.specs.ClockFaults.{clock_faults}
use Rattle.vl_process.specs.NotBuilt.{is_not_built}

pub data Verdict : Type 0 where
  faulty : Fault → Verdict
  not_built : Verdict
  sound : Design → Verdict

-- the least fault of phases 6 to 8
abbrev pub process_fault : Design → Option Fault
process_fault d = then_phase 6 (name_faults d) (then_phase 7 (block_faults MAX_STATEMENTS d)
    (then_phase 8 (driver_faults d ++ clock_faults d) None))

abbrev pub judged : Design → Verdict
judged d = if is_not_built d then not_built else (elim (process_fault d) [ Some f ↦ faulty f | None ↦ sound d ])

abbrev pub verdict : Limits → Source → Option Text → Verdict
verdict q src top = elim (elaborated q src top) [ Ok d ↦ judged d | Err f ↦ faulty f ]
