use Rattle.std.proofs.Common.{ap, codes}
use Rattle.talk.specs.Report.{counted, usage_text}
use Rattle.talk.proofs.WritesLaws.{same_text}
use Rattle.talk.proofs.report.write_usage.Goals as goal

pub returns : goal.returns
returns g c =
    same_text (g.T.Sink.held c.args.report.now) (g.T.Sink.held c.write_counted.new.report) (g.T.Sink.faults c.args.report.now) (g.T.Sink.faults c.write_counted.new.report)
    (counted (codes "usage: word ") c.from.result (codes "\n")) (usage_text c.args.number) c.write_counted.result (ap usage_text c.from.ensures) c.write_counted.ensures
