use Rattle.std.proofs.Common.{ap, sym, ◌∙◌, codes, List, ℕ}
use Rattle.talk.specs.Report.{report_text, file_text}
use Rattle.talk.proofs.WritesLaws.{same_text}
use Rattle.talk.proofs.report.write_answer.Goals as goal

pub returns-in-FileTooLong : goal.returns-in-FileTooLong
returns-in-FileTooLong g c =
    same_text (g.T.Sink.held c.args.report.now) (g.T.Sink.held c.write_file-in-FileTooLong.new.report) (g.T.Sink.faults c.args.report.now) (g.T.Sink.faults c.write_file-in-FileTooLong.new.report)
    (file_text c.bytes-in-FileTooLong.result.now (codes ": too long\n")) (report_text c.args.answer.now) c.write_file-in-FileTooLong.result
    (ap (λ (n : List ℕ). file_text n (codes ": too long\n")) c.bytes-in-FileTooLong.ensures ∙ ap report_text (sym c.in-FileTooLong.is)) c.write_file-in-FileTooLong.ensures

pub returns-in-NotYetBuilt : goal.returns-in-NotYetBuilt
returns-in-NotYetBuilt g c =
    same_text (g.T.Sink.held c.args.report.now) (g.T.Sink.held c.write_all.new.sink) (g.T.Sink.faults c.args.report.now) (g.T.Sink.faults c.write_all.new.sink)
    (codes "design: NotYetBuilt\n") (report_text c.args.answer.now) c.write_all.result (ap report_text (sym c.in-NotYetBuilt.is))
    (record { whole = c.write_all.ensures.whole; part = c.write_all.ensures.part; cause = c.write_all.ensures.cause })

pub returns-in-InputFailed : goal.returns-in-InputFailed
returns-in-InputFailed g c =
    same_text (g.T.Sink.held c.args.report.now) (g.T.Sink.held c.write_all-in-InputFailed.new.sink) (g.T.Sink.faults c.args.report.now) (g.T.Sink.faults c.write_all-in-InputFailed.new.sink)
    (codes "input: read failed\n") (report_text c.args.answer.now) c.write_all-in-InputFailed.result (ap report_text (sym c.in-InputFailed.is))
    (record { whole = c.write_all-in-InputFailed.ensures.whole; part = c.write_all-in-InputFailed.ensures.part; cause = c.write_all-in-InputFailed.ensures.cause })
