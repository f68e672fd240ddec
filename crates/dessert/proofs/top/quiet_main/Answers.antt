use Rattle.dessert.specs.Outside.{outside_at}
use Rattle.talk.specs.Plain.{named}
use Rattle.dessert.specs.Calls.Ended.{status_of}
use Rattle.dessert.proofs.CompleteLaw.{ends}
use Rattle.dessert.proofs.top.quiet_main.Goals as goal

pub returns-clause-answers : goal.returns-clause-answers
returns-clause-answers g c =
    record { status = status_of c.answer.result; number_is = c.number.ensures; answers = c.answer.ensures.answers; steps = c.answer.ensures.steps }

pub returns-clause-complete : goal.returns-clause-complete
returns-clause-complete g c = λ w.
    rw c.number.ensures (ends (named c.args.words.now) (outside_at g.F.Files g.S.Source g.V.Sink g.T.Sink c.args.files.now c.args.stimulus.now c.args.out.now c.args.report.now c.args.steps.now)
    (outside_at g.F.Files g.S.Source g.V.Sink g.T.Sink c.answer.new.files c.answer.new.stimulus c.answer.new.out c.answer.new.report c.answer.new.steps) w (status_of c.answer.result) c.answer.ensures.answers)
