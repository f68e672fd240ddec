use Rattle.std.proofs.Common.{ℕ, [], refl}
use Rattle.std.specs.Prelude.{Ok, Err}
use Rattle.waveform.specs.declared.fault.VcdFault.TheVariants as fault
use Rattle.dessert.specs.Outside.{sink_at}
use Rattle.dessert.specs.Calls.Ended.{status_of}
use Rattle.dessert.specs.Calls.Written.{out_by}
use Rattle.dessert.proofs.FailLaws.{waves_by, steps_by, both_written, wave_failed, wave_stopped}
use Rattle.dessert.proofs.TopLaws.{left_as}
use Rattle.dessert.proofs.top.fail.Goals as goal

pub write_window-requires-clause-ran : goal.write_window-requires-clause-ran
write_window-requires-clause-ran g c = ([], c.requires.ran.0, c.requires.ran.1)

pub returns-in-Ok-clause-written : goal.returns-in-Ok-clause-written
returns-in-Ok-clause-written g c = λ rows text r made.
    let p = c.args.run.now in
    both_written (out_by p.lag p.flat rows p.failure) text (status_of c.finish_made.result) (sink_at g.V.Sink c.args.out.now) (sink_at g.V.Sink c.write_window.new.out)
    (sink_at g.T.Sink c.args.report.now) (sink_at g.T.Sink c.finish_made.new.report)
    (waves_by p.lag p.flat rows p.failure (sink_at g.V.Sink c.args.out.now) (sink_at g.V.Sink c.write_window.new.out) (Ok tt) (c.in-Ok.ensures.waves p.flat [] rows r))
    (c.finish_made.ensures text made)

pub returns-in-Ok-clause-steps : goal.returns-in-Ok-clause-steps
returns-in-Ok-clause-steps g c = steps_by c.args.run.now.lag c.args.run.now.failure _ _ c.in-Ok.ensures.steps

pub returns-in-Err-Write-clause-written : goal.returns-in-Err-Write-clause-written
returns-in-Err-Write-clause-written g c = λ rows text r made.
    let p = c.args.run.now in
    wave_failed (out_by p.lag p.flat rows p.failure) text (status_of c.finish.result) (sink_at g.V.Sink c.args.out.now) (sink_at g.V.Sink c.write_window.new.out)
    (sink_at g.T.Sink c.args.report.now) (sink_at g.T.Sink c.finish.new.report)
    (waves_by p.lag p.flat rows p.failure (sink_at g.V.Sink c.args.out.now) (sink_at g.V.Sink c.write_window.new.out) (Err fault.Write)
    ((rw c.in-Err-Write.field-0-is at c.in-Err-Write.ensures.waves) p.flat [] rows r))
    c.finish.ensures

pub returns-in-Err-Write-clause-steps : goal.returns-in-Err-Write-clause-steps
returns-in-Err-Write-clause-steps g c = steps_by c.args.run.now.lag c.args.run.now.failure _ _ c.in-Err-Write.ensures.steps

pub returns-clause-written : goal.returns-clause-written
returns-clause-written g c = λ rows text r made.
    let p = c.args.run.now in
    wave_stopped (out_by p.lag p.flat rows p.failure) text _ (sink_at g.V.Sink c.args.out.now) (sink_at g.V.Sink c.write_window.new.out)
    (sink_at g.T.Sink c.args.report.now) (sink_at g.T.Sink c.args.report.now)
    (waves_by p.lag p.flat rows p.failure (sink_at g.V.Sink c.args.out.now) (sink_at g.V.Sink c.write_window.new.out) (Err fault.Memory)
    ((rw c.in-Err-Memory.field-0-is at c.in-Err-Memory.ensures.waves) p.flat [] rows r))
    refl (left_as _)

pub returns-clause-steps : goal.returns-clause-steps
returns-clause-steps g c = steps_by c.args.run.now.lag c.args.run.now.failure _ _ c.in-Err-Memory.ensures.steps
