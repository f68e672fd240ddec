use Rattle.std.proofs.Common.{◌+◌, drop}
use Rattle.std.proofs.lemmas.List.{at_drop_all}
use Rattle.talk.specs.Report.{stop_text, stops_text}
use Rattle.talk.proofs.WritesLaws.{leads_on, leads_stop, leads_end, left_is}
use Rattle.talk.proofs.report.write_stops.Goals as goal

pub loop-stop-preserved : goal.loop-stop-preserved
loop-stop-preserved g c =
    let i = c.loop-stop.stop-index in
    leads_on (stops_text c.args.stops.now) (stops_text (drop i c.args.stops.now)) (stop_text c.stop-item.result) (stops_text (drop (i + 1) c.args.stops.now))
    (g.T.Sink.held c.args.report.now) (g.T.Sink.held c.loop-stop.report) (g.T.Sink.held c.write_stop.new.report) (g.T.Sink.faults c.args.report.now) (g.T.Sink.faults c.loop-stop.report) (g.T.Sink.faults c.write_stop.new.report)
    _ (left_is stops_text c.args.stops.now i c.stop-item.result c.loop-stop-test.true c.stop-item.is) c.loop-stop.invariant c.in_ok-write_stop.ensures

pub returns-in_err-write_stop : goal.returns-in_err-write_stop
returns-in_err-write_stop g c =
    let i = c.loop-stop.stop-index in
    leads_stop (stops_text c.args.stops.now) (stops_text (drop i c.args.stops.now)) (stop_text c.stop-item.result) (stops_text (drop (i + 1) c.args.stops.now))
    (g.T.Sink.held c.args.report.now) (g.T.Sink.held c.loop-stop.report) (g.T.Sink.held c.write_stop.new.report) (g.T.Sink.faults c.args.report.now) (g.T.Sink.faults c.loop-stop.report) (g.T.Sink.faults c.write_stop.new.report)
    c.from_residual.result _ c.from_residual.ensures.0 (left_is stops_text c.args.stops.now i c.stop-item.result c.loop-stop-test.true c.stop-item.is) c.loop-stop.invariant c.in_err-write_stop.ensures

pub returns : goal.returns
returns g c =
    leads_end (stops_text c.args.stops.now) (stops_text (drop c.loop-stop.stop-index c.args.stops.now))
    (g.T.Sink.held c.args.report.now) (g.T.Sink.held c.loop-stop.report) (g.T.Sink.faults c.args.report.now) (g.T.Sink.faults c.loop-stop.report)
    (at_drop_all stops_text c.args.stops.now c.loop-stop.stop-index c.loop-stop-test.false) c.loop-stop.invariant
