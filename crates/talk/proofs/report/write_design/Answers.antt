use Rattle.std.proofs.Common.{◌++◌, refl}
use Rattle.talk.specs.Report.{fault_text, loops_text}
use Rattle.talk.proofs.WritesLaws.{then_writes, stopped_first}
use Rattle.talk.proofs.report.write_design.Goals as goal

pub returns-in_err-write_fault : goal.returns-in_err-write_fault
returns-in_err-write_fault g c =
    stopped_first (g.T.Sink.held c.args.report.now) (g.T.Sink.held c.write_fault.new.report) (g.T.Sink.faults c.args.report.now) (g.T.Sink.faults c.write_fault.new.report)
    (fault_text c.args.file.now c.args.line c.args.kind.now) (loops_text c.args.parts.now) ((fault_text c.args.file.now c.args.line c.args.kind.now) ++ (loops_text c.args.parts.now)) c.from_residual.result _ c.from_residual.ensures.0 refl c.in_err-write_fault.ensures

pub returns : goal.returns
returns g c =
    then_writes (g.T.Sink.held c.args.report.now) (g.T.Sink.held c.write_fault.new.report) (g.T.Sink.held c.write_loops.new.report) (g.T.Sink.faults c.args.report.now) (g.T.Sink.faults c.write_fault.new.report) (g.T.Sink.faults c.write_loops.new.report)
    (fault_text c.args.file.now c.args.line c.args.kind.now) (loops_text c.args.parts.now) ((fault_text c.args.file.now c.args.line c.args.kind.now) ++ (loops_text c.args.parts.now)) c.write_loops.result refl c.in_ok-write_fault.ensures.whole c.in_ok-write_fault.ensures.cause.kept c.write_loops.ensures
