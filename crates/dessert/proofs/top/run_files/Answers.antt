use Rattle.std.proofs.Common.{ℕ, List, refl, sym, subst, inl, inr, arith}
use Rattle.std.proofs.KnownBytes.{Keeps-refl, Consumes-nil}
use Rattle.talk.specs.declared.answer.Answer.TheVariants as a
use Rattle.talk.specs.Plain.{named, plain}
use Rattle.talk.specs.Report.{report_text}
use Rattle.talk.specs.Words.{Asks, sim}
use Rattle.dessert.specs.Outside.{FilesAt, files_at, streams_at, outside_at}
use Rattle.dessert.specs.Answer.{memory, Answers}
use Rattle.dessert.specs.Outcome.{layers}
use Rattle.dessert.specs.Steps.{AreFew}
use Rattle.dessert.specs.Calls.Ended.{status_of}
use Rattle.dessert.specs.Calls.Loading.{IsLoaded}
use Rattle.dessert.proofs.Cases.{memory_answers}
use Rattle.dessert.proofs.StepsLaws.{unread}
use Rattle.dessert.proofs.TopLaws.{left_as, no_file, made}
use Rattle.dessert.proofs.top.run_files.Goals as goal

pub returns-in-Ok-clause-answers : goal.returns-in-Ok-clause-answers
returns-in-Ok-clause-answers g c = λ words asked.
    subst (λ (x : FilesAt). Answers layers words (outside_at g.F.Files g.S.Source g.V.Sink g.T.Sink c.args.files.now c.args.stimulus.now c.args.out.now c.args.report.now c.args.steps.now)
    (streams_at g.S.Source g.V.Sink g.T.Sink x c.run_sources.new.stimulus c.run_sources.new.out c.run_sources.new.report c.run_sources.new.steps) (status_of c.run_sources.result))
    (sym c.in-Ok.ensures.same)
    (c.run_sources.ensures.answers words (files_at g.F.Files c.args.files.now) (record {
      asked = subst (λ (ns : List (List ℕ)). Asks words (sim c.args.lag (plain c.args.top) ns)) (sym c.in-Ok.ensures.names) asked;
      is_loaded = subst (λ (ns : List (List ℕ)). IsLoaded (files_at g.F.Files c.args.files.now) ns c.in-Ok.sources.text.items c.in-Ok.sources.origins.counts) (sym c.in-Ok.ensures.names) c.in-Ok.ensures.loaded;
    }))

pub returns-in-Ok-clause-steps : goal.returns-in-Ok-clause-steps
returns-in-Ok-clause-steps g c = λ words asked.
    subst (λ (x : FilesAt). AreFew words (outside_at g.F.Files g.S.Source g.V.Sink g.T.Sink c.args.files.now c.args.stimulus.now c.args.out.now c.args.report.now c.args.steps.now)
    (streams_at g.S.Source g.V.Sink g.T.Sink x c.run_sources.new.stimulus c.run_sources.new.out c.run_sources.new.report c.run_sources.new.steps))
    (sym c.in-Ok.ensures.same)
    (c.run_sources.ensures.steps words (files_at g.F.Files c.args.files.now) (record {
      asked = subst (λ (ns : List (List ℕ)). Asks words (sim c.args.lag (plain c.args.top) ns)) (sym c.in-Ok.ensures.names) asked;
      is_loaded = subst (λ (ns : List (List ℕ)). IsLoaded (files_at g.F.Files c.args.files.now) ns c.in-Ok.sources.text.items c.in-Ok.sources.origins.counts) (sym c.in-Ok.ensures.names) c.in-Ok.ensures.loaded;
    }))

pub returns-in-Err-Failed-clause-answers : goal.returns-in-Err-Failed-clause-answers
returns-in-Err-Failed-clause-answers g c = λ words asked.
    let f = rw c.in-Err-Failed.field-0-is at c.in-Err-Failed.ensures.fault in
    no_file words (outside_at g.F.Files g.S.Source g.V.Sink g.T.Sink c.args.files.now c.args.stimulus.now c.args.out.now c.args.report.now c.args.steps.now)
    (outside_at g.F.Files g.S.Source g.V.Sink g.T.Sink c.load_sources.new.files c.args.stimulus.now c.args.out.now c.finish_made.new.report c.args.steps.now) (sim c.args.lag (plain c.args.top) (named c.args.names.now)) asked
    c.in-Err-Failed.name.now (report_text (a.FileFailed c.in-Err-Failed.name.now)) (status_of c.finish_made.result) f.0 (inl (f.1, refl)) refl (Keeps-refl _) (left_as _)
    (c.finish_made.ensures _ (made c.file_failed.result (a.FileFailed c.in-Err-Failed.name.now) (rw c.in-Err-Failed.name-is at c.file_failed.ensures)))

pub returns-in-Err-Failed-clause-steps : goal.returns-in-Err-Failed-clause-steps
returns-in-Err-Failed-clause-steps g c = λ words asked. unread _ _ _ (Consumes-nil _) (omega arith)

pub returns-in-Err-TooLong-clause-answers : goal.returns-in-Err-TooLong-clause-answers
returns-in-Err-TooLong-clause-answers g c = λ words asked.
    let f = rw c.in-Err-TooLong.field-0-is at c.in-Err-TooLong.ensures.fault in
    no_file words (outside_at g.F.Files g.S.Source g.V.Sink g.T.Sink c.args.files.now c.args.stimulus.now c.args.out.now c.args.report.now c.args.steps.now)
    (outside_at g.F.Files g.S.Source g.V.Sink g.T.Sink c.load_sources.new.files c.args.stimulus.now c.args.out.now c.finish_made-in-Err-TooLong.new.report c.args.steps.now) (sim c.args.lag (plain c.args.top) (named c.args.names.now)) asked
    c.in-Err-TooLong.name.now (report_text (a.FileTooLong c.in-Err-TooLong.name.now)) (status_of c.finish_made-in-Err-TooLong.result) f.0 (inr (f.1, refl)) refl (Keeps-refl _) (left_as _)
    (c.finish_made-in-Err-TooLong.ensures _ (made c.file_long.result (a.FileTooLong c.in-Err-TooLong.name.now) (rw c.in-Err-TooLong.name-is at c.file_long.ensures)))

pub returns-in-Err-TooLong-clause-steps : goal.returns-in-Err-TooLong-clause-steps
returns-in-Err-TooLong-clause-steps g c = λ words asked. unread _ _ _ (Consumes-nil _) (omega arith)

pub returns-in-Err-Memory-clause-answers : goal.returns-in-Err-Memory-clause-answers
returns-in-Err-Memory-clause-answers g c = λ words asked.
    memory_answers layers words (outside_at g.F.Files g.S.Source g.V.Sink g.T.Sink c.args.files.now c.args.stimulus.now c.args.out.now c.args.report.now c.args.steps.now)
    (outside_at g.F.Files g.S.Source g.V.Sink g.T.Sink c.load_sources.new.files c.args.stimulus.now c.args.out.now c.args.report.now c.args.steps.now) (sim c.args.lag (plain c.args.top) (named c.args.names.now)) asked memory refl
    (rw c.in-Err-Memory.field-0-is at c.in-Err-Memory.ensures.fault, refl, refl) (Keeps-refl _) (left_as _)

pub returns-in-Err-Memory-clause-steps : goal.returns-in-Err-Memory-clause-steps
returns-in-Err-Memory-clause-steps g c = λ words asked. unread _ _ _ (Consumes-nil _) (omega arith)
