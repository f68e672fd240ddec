use Rattle.std.proofs.Common.{◌≡◌, ◌≤◌, ◌+◌, ℕ, map, sym, subst, inl, inr, arith}
use Rattle.std.specs.Prelude.{Option, IfOk}
use Rattle.netlist.specs.Design.{Flat}
use Rattle.netlist.specs.Fits.{IsWellFormed}
use Rattle.talk.specs.Report.{report_text, failure_text, quiet_text}
use Rattle.window_run.specs.Progress.{Failure}
use Rattle.window_run.specs.Window.{window_start}
use Rattle.dessert.specs.Outside.{sink_at}
use Rattle.dessert.specs.Answer.{quiet}
use Rattle.dessert.specs.Calls.Ended.{status_of}
use Rattle.dessert.specs.Calls.Told.{told_of, AreStops}
use Rattle.dessert.specs.Calls.Written.{out_by, text_by, ended_by, cycles_by}
use Rattle.dessert.specs.Calls.Writing.{Wrote, Delivered}
use Rattle.dessert.proofs.Cases.{left_took}
use Rattle.dessert.proofs.FailLaws.{is_failed, fired_there, failed_settles}
use Rattle.dessert.proofs.TopLaws.{left_as}
use Rattle.dessert.proofs.top.settle.Goals as goal

pub failure_report-answer-requires-clause-fits : goal.failure_report-answer-requires-clause-fits
failure_report-answer-requires-clause-fits g c = subst IsWellFormed (sym c.flat.ensures) c.requires.ran.1.fits

pub failure_report-answer-requires-clause-there : goal.failure_report-answer-requires-clause-there
failure_report-answer-requires-clause-there g c =
    subst (λ (f : Flat). AreStops f c.in-Some.failure.now.fired) (sym c.flat.ensures)
    (fired_there c.stops_law.ensures c.args.run.now.flat c.requires.ran.0 c.args.run.now c.in-Some.failure.now c.in-Some.ensures c.requires.ran.1)

pub fail-requires-clause-ran : goal.fail-requires-clause-ran
fail-requires-clause-ran g c = c.requires.ran

pub fail-requires-clause-failed : goal.fail-requires-clause-failed
fail-requires-clause-failed g c = is_failed c.args.run.now.failure c.in-Some.failure.now c.in-Some.ensures

pub returns-in-Some-clause-written : goal.returns-in-Some-clause-written
returns-in-Some-clause-written g c = λ rows r.
    let x = c.in-Some.failure.now in
    let made = subst (λ (f : Flat). IfOk c.failure_report-answer.result (λ it. report_text it ≡ failure_text x.cycle (map (told_of f c.args.origins.now) x.fired) (window_start c.args.lag x.cycle)))
    c.flat.ensures c.failure_report-answer.ensures in
    failed_settles c.args.lag c.args.origins.now c.args.run.now.flat rows c.args.run.now x (status_of c.fail.result) (sink_at g.V.Sink c.args.out.now) (sink_at g.V.Sink c.fail.new.out)
    (sink_at g.T.Sink c.args.report.now) (sink_at g.T.Sink c.fail.new.report) c.in-Some.ensures c.requires.lag (c.fail.ensures.written rows _ r made)

pub returns-in-Some-clause-steps : goal.returns-in-Some-clause-steps
returns-in-Some-clause-steps g c =
    subst (λ (n : ℕ). c.fail.new.steps ≤ c.args.steps.now + cycles_by n c.args.run.now.failure) c.requires.lag c.fail.ensures.steps

pub returns-in-None-clause-written : goal.returns-in-None-clause-written
returns-in-None-clause-written g c = λ rows r.
    subst (λ (o : Option Failure). Delivered (out_by c.args.lag c.args.run.now.flat rows o) (text_by c.args.lag c.args.run.now.flat c.args.origins.now c.args.run.now.cycles o) (ended_by o) (status_of c.finish.result)
    (sink_at g.V.Sink c.args.out.now) (sink_at g.V.Sink c.args.out.now) (sink_at g.T.Sink c.args.report.now) (sink_at g.T.Sink c.finish.new.report))
    (sym c.in-None.ensures)
    (inl (
      left_took (sink_at g.V.Sink c.args.out.now) (sink_at g.V.Sink c.args.out.now) (left_as (sink_at g.V.Sink c.args.out.now)),
      inr (subst (λ (n : ℕ). Wrote (quiet_text n) quiet (status_of c.finish.result) (sink_at g.T.Sink c.args.report.now) (sink_at g.T.Sink c.finish.new.report)) c.cycles-cycles.ensures c.finish.ensures),
    ))

pub returns-in-None-clause-steps : goal.returns-in-None-clause-steps
returns-in-None-clause-steps g c = omega arith
