use Rattle.std.proofs.Common.{◌+◌, drop}
use Rattle.std.proofs.lemmas.List.{at_drop_all}
use Rattle.talk.specs.Report.{loop_text, loops_text}
use Rattle.talk.proofs.WritesLaws.{leads_on, leads_stop, leads_end, left_is}
use Rattle.talk.proofs.report.write_loops.Goals as goal

pub loop-part-preserved : goal.loop-part-preserved
loop-part-preserved g c =
    let i = c.loop-part.part-index in
    leads_on (loops_text c.args.parts.now) (loops_text (drop i c.args.parts.now)) (loop_text c.part-item.result) (loops_text (drop (i + 1) c.args.parts.now))
    (g.T.Sink.held c.args.report.now) (g.T.Sink.held c.loop-part.report) (g.T.Sink.held c.write_loop.new.report) (g.T.Sink.faults c.args.report.now) (g.T.Sink.faults c.loop-part.report) (g.T.Sink.faults c.write_loop.new.report)
    _ (left_is loops_text c.args.parts.now i c.part-item.result c.loop-part-test.true c.part-item.is) c.loop-part.invariant c.in_ok-write_loop.ensures

pub returns-in_err-write_loop : goal.returns-in_err-write_loop
returns-in_err-write_loop g c =
    let i = c.loop-part.part-index in
    leads_stop (loops_text c.args.parts.now) (loops_text (drop i c.args.parts.now)) (loop_text c.part-item.result) (loops_text (drop (i + 1) c.args.parts.now))
    (g.T.Sink.held c.args.report.now) (g.T.Sink.held c.loop-part.report) (g.T.Sink.held c.write_loop.new.report) (g.T.Sink.faults c.args.report.now) (g.T.Sink.faults c.loop-part.report) (g.T.Sink.faults c.write_loop.new.report)
    c.from_residual.result _ c.from_residual.ensures.0 (left_is loops_text c.args.parts.now i c.part-item.result c.loop-part-test.true c.part-item.is) c.loop-part.invariant c.in_err-write_loop.ensures

pub returns : goal.returns
returns g c =
    leads_end (loops_text c.args.parts.now) (loops_text (drop c.loop-part.part-index c.args.parts.now))
    (g.T.Sink.held c.args.report.now) (g.T.Sink.held c.loop-part.report) (g.T.Sink.faults c.args.report.now) (g.T.Sink.faults c.loop-part.report)
    (at_drop_all loops_text c.args.parts.now c.loop-part.part-index c.loop-part-test.false) c.loop-part.invariant
