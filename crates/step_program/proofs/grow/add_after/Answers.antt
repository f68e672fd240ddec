use Rattle.step_program.proofs.Grows.{added_in, added_after}
use Rattle.step_program.proofs.grow.add_after.Goals as goal

pub returns-in_ok-push-2 : goal.returns-in_ok-push-2
returns-in_ok-push-2 c =
    added_after c.args.runs.now.items c.push.new.self.items _ c.args.last c.add.new.self c.in_ok-of.field-0 c.args.step
    c.in_ok-done.done c.in_ok-push-2.ensures.items c.in_ok-push.ensures.items c.if-not-done.true c.in_ok-done.ensures
    c.in_ok-of.ensures

pub returns-else-not-done : goal.returns-else-not-done
returns-else-not-done c =
    added_in c.args.runs.now.items _ c.args.last c.add.new.self c.args.step c.in_ok-done.done c.in_ok-push.ensures.items
    c.if-not-done.false c.in_ok-done.ensures
