use Rattle.std.proofs.Common.{◌≡◌, drop, ◌++◌}
use Rattle.flat_sim.specs.Stops.{stop_slots}
use Rattle.flat_sim.proofs.stops.stop_slots.Given as goal

-- the slots so far, and those that are left, are all
abbrev pub invariant-loop-block : goal.invariant-loop-block
invariant-loop-block l =
    l.slots.items ++ stop_slots l.nodes (drop l.block-index l.blocks) ≡ stop_slots l.nodes l.blocks
