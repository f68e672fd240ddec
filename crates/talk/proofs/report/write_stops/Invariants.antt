use Rattle.std.proofs.Common.{drop}
use Rattle.talk.specs.Report.{stops_text}
use Rattle.talk.proofs.WritesLaws.{Leads}
use Rattle.talk.proofs.report.write_stops.Given as goal

-- some stops were written, and the others are left
abbrev pub invariant-loop-stop : goal.invariant-loop-stop
invariant-loop-stop g l =
    Leads (stops_text l.stops) (stops_text (drop l.stop-index l.stops)) (g.T.Sink.held l.fn.report) (g.T.Sink.held l.report) (g.T.Sink.faults l.fn.report) (g.T.Sink.faults l.report)
