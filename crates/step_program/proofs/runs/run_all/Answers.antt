use Rattle.std.proofs.Common.{◌∙◌, sym}
use Rattle.step_program.proofs.Lefts.{left_on, left_fits, left_room, runs_next}
use Rattle.step_program.proofs.runs.run_all.Goals as goal

pub run-now-requires-clause-fits : goal.run-now-requires-clause-fits
run-now-requires-clause-fits c =
    left_fits _ _ _ _ _ _ _ _ _ _ _
    (runs_next c.args.runs.now c.loop-run.run-index c.run-item.result c.loop-run-test.true c.run-item.is)
    c.loop-run.invariant

pub run-now-requires-clause-room : goal.run-now-requires-clause-room
run-now-requires-clause-room c =
    left_room _ _ _ _ _ _ _ _ _ _ _ _ _
    (runs_next c.args.runs.now c.loop-run.run-index c.run-item.result c.loop-run-test.true c.run-item.is)
    c.loop-run.invariant (c.requires.room.0 ∙ sym c.loop-run.auto.narrow) (c.requires.room.1 ∙ sym c.loop-run.auto.wide)

pub loop-run-preserved : goal.loop-run-preserved
loop-run-preserved c =
    left_on _ _ _ _ _ _ _ _ _ _ _ _ _ _ _
    (runs_next c.args.runs.now c.loop-run.run-index c.run-item.result c.loop-run-test.true c.run-item.is)
    c.loop-run.invariant c.run-now.ensures
