use Rattle.std.proofs.Common.{◌≡◌, ◌++◌, drop}
use Rattle.design_names.specs.Stops.{event_stops}
use Rattle.design_names.proofs.stops.push_events.Given as goal

-- what was pushed, and the assertions of what is left
abbrev pub invariant-loop-event : goal.invariant-loop-event
invariant-loop-event l =
    l.stops.items ++ event_stops l.scope (drop l.event-index l.events) ≡ l.fn.stops.items ++ event_stops l.scope l.events
