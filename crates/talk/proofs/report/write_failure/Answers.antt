use Rattle.std.proofs.Common.{◌++◌, codes, refl}
use Rattle.talk.specs.Report.{counted, stops_text, window_text}
use Rattle.talk.proofs.WritesLaws.{then_writes, stopped_first}
use Rattle.talk.proofs.report.write_failure.Goals as goal

pub returns-in_err-write_counted : goal.returns-in_err-write_counted
returns-in_err-write_counted g c =
    stopped_first (g.T.Sink.held c.args.report.now) (g.T.Sink.held c.write_counted.new.report) (g.T.Sink.faults c.args.report.now) (g.T.Sink.faults c.write_counted.new.report)
    (counted (codes "failure at cycle ") c.args.cycle (codes "\n")) (stops_text c.args.stops.now ++ window_text c.args.first c.args.cycle) ((counted (codes "failure at cycle ") c.args.cycle (codes "\n")) ++ (stops_text c.args.stops.now ++ window_text c.args.first c.args.cycle)) c.from_residual.result _ c.from_residual.ensures.0 refl c.in_err-write_counted.ensures

pub returns : goal.returns
returns g c =
    then_writes (g.T.Sink.held c.args.report.now) (g.T.Sink.held c.write_counted.new.report) (g.T.Sink.held c.write_stops_and_window.new.report) (g.T.Sink.faults c.args.report.now) (g.T.Sink.faults c.write_counted.new.report) (g.T.Sink.faults c.write_stops_and_window.new.report)
    (counted (codes "failure at cycle ") c.args.cycle (codes "\n")) (stops_text c.args.stops.now ++ window_text c.args.first c.args.cycle) ((counted (codes "failure at cycle ") c.args.cycle (codes "\n")) ++ (stops_text c.args.stops.now ++ window_text c.args.first c.args.cycle)) c.write_stops_and_window.result refl c.in_ok-write_counted.ensures.whole c.in_ok-write_counted.ensures.cause.kept c.write_stops_and_window.ensures
