use Rattle.std.proofs.Common.{◌≡◌, drop}
use Rattle.step_program.specs.Plan.{held}
use Rattle.flat_sim.specs.Stops.{some_holds}
use Rattle.flat_sim.proofs.stops.some_holds.Given as goal

abbrev pub invariant-loop-slot : goal.invariant-loop-slot
invariant-loop-slot l =
    some_holds (held l.values) (drop l.slot-index l.slots) ≡ some_holds (held l.values) l.slots
