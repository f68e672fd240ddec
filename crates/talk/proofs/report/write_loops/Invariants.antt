use Rattle.std.proofs.Common.{drop}
use Rattle.talk.specs.Report.{loops_text}
use Rattle.talk.proofs.WritesLaws.{Leads}
use Rattle.talk.proofs.report.write_loops.Given as goal

-- some parts were written, and the others are left
abbrev pub invariant-loop-part : goal.invariant-loop-part
invariant-loop-part g l =
    Leads (loops_text l.parts) (loops_text (drop l.part-index l.parts)) (g.T.Sink.held l.fn.report) (g.T.Sink.held l.report) (g.T.Sink.faults l.fn.report) (g.T.Sink.faults l.report)
