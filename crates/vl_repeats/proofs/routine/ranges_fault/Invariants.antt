use Rattle.std.proofs.Common.{◌≡◌, drop}
use Rattle.std.specs.Option.{option_map}
use Rattle.vl_value.specs.Order.{lesser, least}
use Rattle.vl_found.specs.View.{found}
use Rattle.vl_design.specs.Lists.{each_of}
use Rattle.vl_design.specs.ObjectFaults.{local_faults}
use Rattle.vl_declares.specs.Locals.{all_locals}
use Rattle.vl_repeats.proofs.routine.ranges_fault.Given as goal

-- the least fault so far, and that of what is left
abbrev pub invariant-loop-local : goal.invariant-loop-local
invariant-loop-local l = lesser (option_map found l.fault) (least (each_of local_faults (all_locals (drop l.local-index l.locals))))
    ≡ least (each_of local_faults (all_locals l.locals))
