use Rattle.std.proofs.Common.{[], ◌∷◌, sym, subst, take}
use Rattle.std.proofs.lemmas.List.{take_all}
use Rattle.one_block.specs.Calls.Events.{AddsEvents}
use Rattle.one_block.proofs.OfRegisters.{take_more}
use Rattle.one_block.proofs.Telling.{told_on}
use Rattle.one_block.proofs.events.events_of.Goals as goal

pub loop-action-preserved : goal.loop-action-preserved
loop-action-preserved c =
    let i = c.loop-action.action-index in
    subst (AddsEvents c.args.made.now [] c.tell.new.events.items)
    (sym (take_more c.args.actions.now i c.action-item.result c.loop-action-test.true c.action-item.is))
    (told_on c.args.made.now [] c.loop-action.events.items c.tell.new.events.items (take i c.args.actions.now)
    (c.action-item.result ∷ []) c.loop-action.invariant c.in_ok-tell.ensures)

pub returns-clause-events : goal.returns-clause-events
returns-clause-events c =
    subst (AddsEvents c.args.made.now [] c.loop-action.events.items)
    (take_all c.loop-action.action-index c.args.actions.now c.loop-action-test.false) c.loop-action.invariant
