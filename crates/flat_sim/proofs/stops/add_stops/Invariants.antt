use Rattle.std.proofs.Common.{◌≡◌, drop, ◌++◌}
use Rattle.flat_sim.specs.Stops.{block_stops}
use Rattle.flat_sim.proofs.stops.add_stops.Given as goal

-- the slots so far, and those that are left, are all
abbrev pub invariant-loop-event : goal.invariant-loop-event
invariant-loop-event l =
    l.slots.items ++ block_stops l.nodes (drop l.event-index l.events)
    ≡ l.fn.slots.items ++ block_stops l.nodes l.events
