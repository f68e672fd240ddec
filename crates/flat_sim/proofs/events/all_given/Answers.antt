use Rattle.flat_sim.proofs.Told.{given_more}
use Rattle.flat_sim.proofs.events.all_given.Goals as goal

pub loop-event-preserved : goal.loop-event-preserved
loop-event-preserved c =
    given_more c.args.nodes.now.flat.nodes c.args.nodes.now.numbers c.args.events.now c.loop-event.all.items
    c.push.new.self.items c.loop-event.event-index c.event-item.result c.given.result c.loop-event-test.true
    c.event-item.is c.in_ok-push.ensures.items c.loop-event.invariant c.given.ensures.given c.given.ensures.fits
