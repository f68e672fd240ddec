use Rattle.window_run.proofs.RanLaws.{step_fails, step_goes}
use Rattle.window_run.proofs.run.step.Goals as goal

pub returns-then-fires-clause-takes : goal.returns-then-fires-clause-takes
returns-then-fires-clause-takes g c =
    let s = c.settle.ensures in
    step_fails c.args.row.now c.args.sim.now c.settle.new.self c.fires.result s.flat s.cycle s.state s.values c.fires.ensures
    c.args.journal.now _ c.if-fires.true c.cycle.ensures c.in_ok-fired.ensures

pub returns-clause-takes : goal.returns-clause-takes
returns-clause-takes g c =
    let s = c.settle.ensures in
    let n = c.in_ok-note_and_advance.ensures in
    step_goes c.args.row.now c.args.sim.now c.settle.new.self c.fires.result s.flat s.cycle s.state s.values c.fires.ensures
    c.note_and_advance.new.self c.args.journal.now c.note_and_advance.new.journal c.if-fires.false n.cycle n.state n.noted
