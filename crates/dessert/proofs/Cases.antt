-- From what is due and what was written to the answer. Knows nothing of any code.
use Rattle.std.proofs.Common.{◌≡◌, ℕ, List, [], Bool, true, false, length, take, refl, sym, subst, inl, inr, append-nil}
use Rattle.std.specs.Prelude.{Option, Some, None}
use Rattle.std.specs.Io.KnownBytes.{Appends, Keeps}
use Rattle.std.proofs.Math.Seq.{take-length}
use Rattle.dt_core.specs.Causes.{AppendsPart}
use Rattle.dessert.specs.Outside.{SinkAt, Outside}
use Rattle.talk.specs.declared.answer.Answer.TheVariants as a
use Rattle.talk.specs.Report.{report_text}
use Rattle.dessert.specs.Answer.{Layers, Status, quiet, failure, usage, design, input, file, reading, writing, reporting, memory, Done, Due, OthersStand, Answers}
use Rattle.dessert.specs.Calls.Writing.{done_status, IsLeft, Took, Wrote, Reported, Delivered}

-- bytes that are kept grow by none
pub kept_appends : (old new : Option (List ℕ)) → Keeps old new → Appends old new []
kept_appends None new k = tt
kept_appends (Some xs) None k = absurd k
kept_appends (Some xs) (Some ys) k = rw append-nil k

-- nothing of a text, and all of it, are fronts
none_part : (old new : Option (List ℕ)) (text : List ℕ) → Keeps old new → AppendsPart old new text
none_part old new text k = (0, kept_appends old new k)

whole_part : (old new : Option (List ℕ)) (text : List ℕ) → Appends old new text → AppendsPart old new text
whole_part old new text a = (length text, subst (Appends old new) (sym (take-length text)) a)

-- a sink that was left took no byte
pub left_took : (old new : SinkAt) → IsLeft old new → Took old new []
left_took old new k = (kept_appends old.held new.held k.0, k.1)

module _ (L : Layers) (words : List (List ℕ)) (old new : Outside) where
  abbrev pub Stands : Type 0
  Stands = (new.files.faults ≡ old.files.faults) × (new.source.faults ≡ old.source.faults) × (new.out.faults ≡ old.out.faults)

  due_answers : (status : Status) (out report : List ℕ) → Due L words old new status out report → OthersStand L words old new status
      → Appends old.out.held new.out.held out → Took old.report new.report report → Answers L words old new status
  due_answers quiet out report d s a b = (b.1, out, report, d, s, a, b.0)
  due_answers failure out report d s a b = (b.1, out, report, d, s, a, b.0)
  due_answers usage out report d s a b = (b.1, out, report, d, s, a, b.0)
  due_answers design out report d s a b = (b.1, out, report, d, s, a, b.0)
  due_answers input out report d s a b = (b.1, out, report, d, s, a, b.0)
  due_answers file out report d s a b = (b.1, out, report, d, s, a, b.0)
  due_answers reading out report d s a b = (b.1, out, report, d, s, a, b.0)
  due_answers writing out report d s a b = (b.1, out, report, d, s, a, b.0)
  due_answers reporting out report d s a b = absurd d
  due_answers memory out report d s a b = absurd d

  -- what is due to `out` was written whole, and the report whole or in part
  pub wrote_answers : (status : Status) (out report : List ℕ) (result : Status) → Due L words old new status out report
      → OthersStand L words old new status → Appends old.out.held new.out.held out
      → Wrote report status result old.report new.report → Answers L words old new result
  wrote_answers status out report result d s a (inl w) = subst (Answers L words old new) (sym w.0) (due_answers status out report d s a w.1)
  wrote_answers status out report result d s a (inr w) =
      subst (Answers L words old new) (sym w.0) (w.1.0, status, out, report, d, s, a, w.1.1)

  -- nothing was written to `out`, and the report whole or in part
  pub plain_answers : (status : Status) (report : List ℕ) (result : Status) → Due L words old new status [] report
      → OthersStand L words old new status → Keeps old.out.held new.out.held
      → Wrote report status result old.report new.report → Answers L words old new result
  plain_answers status report result d s k w = wrote_answers status [] report result d s (kept_appends old.out.held new.out.held k) w

  -- no memory before anything was written
  pub memory_answers : (job : L.Job) → L.Asks words job → (result : Status) → result ≡ memory → OthersStand L words old new memory
      → Keeps old.out.held new.out.held → IsLeft old.report new.report → Answers L words old new result
  memory_answers job e result h s k r = subst (Answers L words old new) (sym h) ((job, e), r.1, inl (s, k, r.0))

  -- nothing was written to `out`, and the report whole or in part, or not at all as there was no memory
  pub reported_answers : (job : L.Job) → L.Asks words job → (status : Status) (report : List ℕ) (result : Status)
      → Due L words old new status [] report → OthersStand L words old new status → Keeps old.out.held new.out.held
      → Reported report status result old.report new.report → Answers L words old new result
  reported_answers job e status report result d s k (inl w) =
      subst (Answers L words old new) (sym w.0)
      ((job, e), w.1.1, inr (status, [], report, d, s, none_part old.out.held new.out.held [] k, none_part old.report.held new.report.held report w.1.0))
  reported_answers job e status report result d s k (inr w) = plain_answers status report result d s k w

  done_due : (fired : Bool) (out report : List ℕ) → Done L words old new fired out report → Due L words old new (done_status fired) out report
  done_due true out report d = d
  done_due false out report d = d

  done_stands : (fired : Bool) → Stands → OthersStand L words old new (done_status fired)
  done_stands true s = s
  done_stands false s = s

  -- a job is done, and its texts were written, whole or in part
  pub delivered_answers : (fired : Bool) (out report : List ℕ) (result : Status) → Done L words old new fired out report
      → new.files.faults ≡ old.files.faults → new.source.faults ≡ old.source.faults
      → Delivered out report (done_status fired) result old.out new.out old.report new.report → Answers L words old new result
  delivered_answers fired out report result d f s (inl (a, inl m)) =
      subst (Answers L words old new) (sym m.0)
      ((d.job, d.ready.asked), m.1.1, inr (done_status fired, out, report, done_due fired out report d, done_stands fired (f, s, a.1), whole_part old.out.held new.out.held out a.0, none_part old.report.held new.report.held report m.1.0))
  delivered_answers fired out report result d f s (inl (a, inr w)) =
      wrote_answers (done_status fired) out report result (done_due fired out report d) (done_stands fired (f, s, a.1)) a.0 w
  delivered_answers fired out report result d f s (inr (inl w)) =
      wrote_answers writing (take w.0.1.0 out) (report_text a.OutputFailed) result
      (record { fired = fired; whole = out; was = report; count = w.0.1.0; did = d; rose = w.0.0; front = refl; report_is = refl }) (f, s) w.0.1.1 w.1
  delivered_answers fired out report result d f s (inr (inr w)) =
      subst (Answers L words old new) (sym w.0)
      ((d.job, d.ready.asked), w.2.1, inr (done_status fired, out, report, done_due fired out report d, done_stands fired (f, s, w.1.1), w.1.0, none_part old.report.held new.report.held report w.2.0))
