use Rattle.std.proofs.Common.{[], take}
use Rattle.one_block.specs.Calls.Events.{AddsEvents}
use Rattle.one_block.proofs.events.events_of.Given as goal

-- the events so far do what the actions so far do
abbrev pub invariant-loop-action : goal.invariant-loop-action
invariant-loop-action l = AddsEvents l.made [] l.events.items (take l.action-index l.actions)
