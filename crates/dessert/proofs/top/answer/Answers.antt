use Rattle.std.proofs.Common.{refl, sym, subst, arith}
use Rattle.std.proofs.KnownBytes.{Keeps-refl, Consumes-nil}
use Rattle.talk.specs.Plain.{named, plain}
use Rattle.talk.specs.Named.{job_seen, number_in}
use Rattle.talk.specs.Words.{sim, Asks, IsFirstBad}
use Rattle.talk.proofs.WithinLaws.{jobs_are_within}
use Rattle.dessert.specs.Outside.{outside_at}
use Rattle.talk.specs.declared.answer.Answer.TheVariants as a
use Rattle.talk.specs.Report.{report_text}
use Rattle.dessert.specs.Answer.{usage}
use Rattle.dessert.specs.Outcome.{layers}
use Rattle.dessert.specs.Calls.Ended.{status_of}
use Rattle.dessert.proofs.Cases.{plain_answers}
use Rattle.dessert.proofs.LoadLaws.{named_length}
use Rattle.dessert.proofs.StepsLaws.{unread}
use Rattle.dessert.proofs.TopLaws.{parts_are}
use Rattle.dessert.proofs.top.answer.Goals as goal

pub run_files-requires-clause-lag : goal.run_files-requires-clause-lag
run_files-requires-clause-lag g c =
    let e = parts_are (job_seen c.in-Ok.job) c.lag.result (plain c.top.result) (named c.files.result.now) c.lag.ensures c.top.ensures c.files.ensures in
    (jobs_are_within (named c.args.words.now) _ (subst (Asks (named c.args.words.now)) e c.in-Ok.ensures)).0

pub run_files-requires-clause-few : goal.run_files-requires-clause-few
run_files-requires-clause-few g c =
    let e = parts_are (job_seen c.in-Ok.job) c.lag.result (plain c.top.result) (named c.files.result.now) c.lag.ensures c.top.ensures c.files.ensures in
    let w = jobs_are_within (named c.args.words.now) _ (subst (Asks (named c.args.words.now)) e c.in-Ok.ensures) in
    let n = named_length c.files.result.now in
    omega (arith, w.2, n)

pub returns-in-Ok-clause-answers : goal.returns-in-Ok-clause-answers
returns-in-Ok-clause-answers g c =
    let e = parts_are (job_seen c.in-Ok.job) c.lag.result (plain c.top.result) (named c.files.result.now) c.lag.ensures c.top.ensures c.files.ensures in
    c.run_files.ensures.answers (named c.args.words.now) (subst (Asks (named c.args.words.now)) e c.in-Ok.ensures)

pub returns-in-Ok-clause-steps : goal.returns-in-Ok-clause-steps
returns-in-Ok-clause-steps g c =
    let e = parts_are (job_seen c.in-Ok.job) c.lag.result (plain c.top.result) (named c.files.result.now) c.lag.ensures c.top.ensures c.files.ensures in
    c.run_files.ensures.steps (named c.args.words.now) (subst (Asks (named c.args.words.now)) e c.in-Ok.ensures)

pub returns-in-Err-clause-answers : goal.returns-in-Err-clause-answers
returns-in-Err-clause-answers g c =
    plain_answers layers (named c.args.words.now) (outside_at g.F.Files g.S.Source g.V.Sink g.T.Sink c.args.files.now c.args.stimulus.now c.args.out.now c.args.report.now c.args.steps.now)
    (outside_at g.F.Files g.S.Source g.V.Sink g.T.Sink c.args.files.now c.args.stimulus.now c.args.out.now c.finish.new.report c.args.steps.now)
    usage (report_text (a.Usage c.number-number.result)) (status_of c.finish.result)
    (refl, record { bad_word = c.number-number.result; is_first_bad = subst (IsFirstBad (named c.args.words.now)) (sym c.number-number.ensures) c.in-Err.ensures; report_is = refl; untaken = Keeps-refl _ }) (refl, refl, refl) (Keeps-refl _) c.finish.ensures

pub returns-in-Err-clause-steps : goal.returns-in-Err-clause-steps
returns-in-Err-clause-steps g c = unread _ _ _ (Consumes-nil _) (omega arith)
