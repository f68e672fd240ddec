use Rattle.std.proofs.Common.{◌++◌, refl, ap, List, ℕ}
use Rattle.talk.specs.Report.{place_text, line_end, stop_text}
use Rattle.talk.proofs.WritesLaws.{then_writes, stopped_first}
use Rattle.talk.proofs.report.write_stop.Goals as goal

pub returns-in_err-write_place : goal.returns-in_err-write_place
returns-in_err-write_place g c =
    stopped_first (g.T.Sink.held c.args.report.now) (g.T.Sink.held c.write_place.new.report) (g.T.Sink.faults c.args.report.now) (g.T.Sink.faults c.write_place.new.report)
    (place_text c.args.stop.now) (c.args.stop.now.message ++ line_end c.args.stop.now.message) ((place_text c.args.stop.now) ++ (c.args.stop.now.message ++ line_end c.args.stop.now.message)) c.from_residual.result _ c.from_residual.ensures.0 refl c.in_err-write_place.ensures

pub returns : goal.returns
returns g c =
    let m = c.bytes.result.now in
    let p = place_text c.args.stop.now in
    then_writes (g.T.Sink.held c.args.report.now) (g.T.Sink.held c.write_place.new.report) (g.T.Sink.held c.write_message.new.report) (g.T.Sink.faults c.args.report.now) (g.T.Sink.faults c.write_place.new.report) (g.T.Sink.faults c.write_message.new.report)
    p (m ++ line_end m) (stop_text c.args.stop.now) c.write_message.result (ap (λ (x : List ℕ). p ++ (x ++ line_end x)) c.bytes.ensures) c.in_ok-write_place.ensures.whole c.in_ok-write_place.ensures.cause.kept c.write_message.ensures
