use Rattle.std.proofs.Common.{◌++◌, refl}
use Rattle.talk.specs.Report.{stops_text, window_text}
use Rattle.talk.proofs.WritesLaws.{then_writes, stopped_first}
use Rattle.talk.proofs.report.write_stops_and_window.Goals as goal

pub returns-in_err-write_stops : goal.returns-in_err-write_stops
returns-in_err-write_stops g c =
    stopped_first (g.T.Sink.held c.args.report.now) (g.T.Sink.held c.write_stops.new.report) (g.T.Sink.faults c.args.report.now) (g.T.Sink.faults c.write_stops.new.report)
    (stops_text c.args.stops.now) (window_text c.args.first c.args.cycle) ((stops_text c.args.stops.now) ++ (window_text c.args.first c.args.cycle)) c.from_residual.result _ c.from_residual.ensures.0 refl c.in_err-write_stops.ensures

pub returns : goal.returns
returns g c =
    then_writes (g.T.Sink.held c.args.report.now) (g.T.Sink.held c.write_stops.new.report) (g.T.Sink.held c.write_span.new.report) (g.T.Sink.faults c.args.report.now) (g.T.Sink.faults c.write_stops.new.report) (g.T.Sink.faults c.write_span.new.report)
    (stops_text c.args.stops.now) (window_text c.args.first c.args.cycle) ((stops_text c.args.stops.now) ++ (window_text c.args.first c.args.cycle)) c.write_span.result refl c.in_ok-write_stops.ensures.whole c.in_ok-write_stops.ensures.cause.kept c.write_span.ensures
