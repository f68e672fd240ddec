-- The exits of the top call, over plain values: from what a step promises to the answer.
use Rattle.std.proofs.Common.{◌≡◌, ◌≤◌, ◌+◌, ℕ, true, List, [], map, refl, sym, ap, subst, ◌∙◌, inl, inr}
use Rattle.std.specs.Prelude.{Option, Some, None, Result, Ok, Err, IfOk, codes}
use Rattle.std.specs.Borrow.{Bor}
use Rattle.std.specs.Io.KnownBytes.{Keeps}
use Rattle.std.proofs.KnownBytes.{Keeps-refl}
use Rattle.dt_core.specs.declared.fault.NoMemory.{NoMemory}
use Rattle.talk.specs.declared.answer.Answer.{Answer}
use Rattle.talk.specs.declared.answer.Answer.TheVariants as a
use Rattle.talk.specs.Plain.{plain}
use Rattle.talk.specs.Words.{Job, Asks, sim, lag_of, top_of, files_of}
use Rattle.talk.specs.Report.{report_text, fault_text}
use Rattle.stimulus.specs.declared.refusal.RefusalKind.{RefusalKind}
use Rattle.stimulus.specs.declared.refusal.RefusalKind.TheVariants as k
use Rattle.stimulus.specs.declared.refusal.StimFault.{StimFault}
use Rattle.stimulus.specs.declared.refusal.StimFault.TheVariants as s
use Rattle.stimulus.specs.Refusals.{is_truncated}
use Rattle.stimulus.specs.Stimulus as text
use Rattle.stimulus.specs.Fits.{AreRows}
use Rattle.netlist.specs.Design.{Flat}
use Rattle.design_names.specs.Laws.{StopsAreThere}
use Rattle.vl_stands.specs.StandsFor.{input_names}
use Rattle.window_run.specs.Progress.{Progress}
use Rattle.window_run.specs.Ran.{RanTo}
use Rattle.vl_tree.specs.Fault.{name_of}
use Rattle.vl_front.specs.Spelled.{Fault}
use Rattle.vl_front.specs.FirstFault.{HasFirst}
use Rattle.vl_front.specs.Top.{HasNoTop, asked}
use Rattle.vl_front.specs.OneModule.{IsNoDesign}
use Rattle.dessert.specs.Outside.{SinkAt, Outside}
use Rattle.dessert.specs.Answer.{Status, design, input, file, reading, memory, Ready, FileCause, Answers}
use Rattle.dessert.specs.Inputs.{bits_named, inputs_of}
use Rattle.dessert.specs.Sources.{line_count, Origins, origins_of, spot_in}
use Rattle.dessert.specs.Steps.{AreFew}
use Rattle.dessert.specs.Reported.{fault_at, refusal_report}
use Rattle.dessert.specs.Outcome.{layers, Design}
use Rattle.dessert.specs.Calls.Loading.{IsFront}
use Rattle.dessert.specs.Calls.Led.{LedToText, LedToDesign}
use Rattle.dessert.specs.Calls.Rows.{RanAll}
use Rattle.dessert.specs.Calls.Written.{cycles_by, RunIsWritten, GivesUp}
use Rattle.dessert.specs.Calls.Writing.{IsLeft, Wrote, Reported}
use Rattle.dessert.proofs.Cases.{Stands, plain_answers, memory_answers, reported_answers}
use Rattle.dessert.proofs.SettledLaw.{settled, few_settled}

-- a sink of which nothing was asked
pub left_as : (k : SinkAt) → IsLeft k k
left_as k = (Keeps-refl k.held, refl)

-- the name of the top, as words and designs take it
pub asked_is : (top : Option (Bor (List ℕ))) → asked top ≡ plain top
asked_is None = refl
asked_is (Some name) = refl

-- a job that asks for these
pub parts_are : (j : Job) (lag : ℕ) (top : Option (List ℕ)) (files : List (List ℕ)) → lag ≡ lag_of j → top ≡ top_of j → files ≡ files_of j → j ≡ sim lag top files
parts_are (sim l t fs) lag top files a b c = λ i. sim (sym a i) (sym b i) (sym c i)

-- the names, and the counts of their files
pub origins_are : (o : Origins) (files : List (List ℕ)) → o.counts ≡ map line_count files → o ≡ origins_of o.names files
origins_are o files e = λ i. record { names = o.names; counts = e i }

-- the line of a fault, known by its place
pub fault_is : (o : Origins) (files : List (List ℕ)) (line l : ℕ) (name kind : List ℕ) → o.counts ≡ map line_count files
    → name ≡ (spot_in o line).file → l ≡ (spot_in o line).line → fault_text name l kind ≡ fault_at (spot_in (origins_of o.names files) line) kind
fault_is o files line l name kind c f e =
    (λ i. fault_text (f i) (e i) kind) ∙ ap (λ (x : Origins). fault_at (spot_in x line) kind) (origins_are o files c)

-- an answer that was made has its report
pub made : (r : Result Answer NoMemory) (it : Answer) → IfOk r (λ x. x ≡ it) → IfOk r (λ x. report_text x ≡ report_text it)
made (Ok x) it e = ap report_text e
made (Err e) it h = tt

-- a refusal that is Truncated comes at the end
truncated : (kind : RefusalKind) → is_truncated kind ≡ true → kind ≡ k.Truncated
truncated k.LineTooLong e = absurd cc
truncated k.Truncated e = refl
truncated k.BadHeader e = absurd cc
truncated k.UnknownInput e = absurd cc
truncated k.RepeatedInput e = absurd cc
truncated k.MissingInput e = absurd cc
truncated k.TooManyRows e = absurd cc
truncated k.WrongCount e = absurd cc
truncated k.BadValue e = absurd cc
truncated k.TooLarge e = absurd cc

module _ (words : List (List ℕ)) (old new : Outside) (lag : ℕ) (top : Option (List ℕ)) (o : Origins) where
  abbrev the_job : Job
  the_job = sim lag top o.names

  -- there was no memory, and nothing was written
  pub no_memory : Asks words the_job → Stands layers words old new → Keeps old.out.held new.out.held → IsLeft old.report new.report
      → Answers layers words old new memory
  no_memory asked s k r = memory_answers layers words old new the_job asked memory refl s k r

  module _ (source : List ℕ) (result : Status) (led : LedToText words old.files lag top o source) (s : Stands layers words old new)
      (left : Keeps old.source.left new.source.left) (out : Keeps old.out.held new.out.held) where
    -- the text of the files has a fault of the first three phases
    pub faulty : (f : Fault) → HasFirst source f
        → ((files : List (List ℕ)) → o.counts ≡ map line_count files → Reported (fault_at (spot_in (origins_of o.names files) f.line) (name_of f.kind)) design result old.report new.report)
        → Answers layers words old new result
    faulty f e w =
        let l = led.is_loaded in
        reported_answers layers words old new the_job led.asked design (fault_at (spot_in (origins_of o.names l.files) f.line) (name_of f.kind)) result
        (refl, record { job = the_job; files = l.files; asked = led.asked; loaded = l.loaded; refused = inl (f, subst (λ x. HasFirst x f) l.text_is e, refl); untaken = left })
        s out (w l.files l.counts_are)

    -- or no top
    pub topless : (line : ℕ) → HasNoTop source top line
        → ((files : List (List ℕ)) → o.counts ≡ map line_count files → Reported (fault_at (spot_in (origins_of o.names files) line) (codes "NoTop")) design result old.report new.report)
        → Answers layers words old new result
    topless line e w =
        let l = led.is_loaded in
        reported_answers layers words old new the_job led.asked design (fault_at (spot_in (origins_of o.names l.files) line) (codes "NoTop")) result
        (refl, record { job = the_job; files = l.files; asked = led.asked; loaded = l.loaded; refused = inr (inl (line, subst (λ x. HasNoTop x top line) l.text_is e, refl)); untaken = left })
        s out (w l.files l.counts_are)

    -- or is no design
    pub no_design : IsNoDesign source top → Wrote (report_text a.NotYetBuilt) design result old.report new.report → Answers layers words old new result
    no_design none w =
        let l = led.is_loaded in
        plain_answers layers words old new design (report_text a.NotYetBuilt) result
        (refl, record { job = the_job; files = l.files; asked = led.asked; loaded = l.loaded; refused = inr (inr (subst (λ x. IsNoDesign x top) l.text_is none, refl)); untaken = left })
        s out w

module _ (words : List (List ℕ)) (old new : Outside) (lag : ℕ) (o : Origins) (flat x : Flat) (led : LedToDesign words old.files lag o flat) (same : x ≡ flat) where
  abbrev asked_job : Job
  asked_job = sim lag led.top o.names

  abbrev the_design : Design
  the_design = record { top = led.the_module; origins = o }

  ready : Ready layers words old new asked_job the_design
  ready = record {
    files = led.files;
    asked = led.asked;
    loaded = led.loaded;
    accepted = record { is_design = led.is_design; origins = origins_are o led.files led.counts };
  }

  inputs : bits_named (input_names x) ≡ inputs_of led.the_module
  inputs = ap bits_named (ap input_names same ∙ led.stands.inputs)

  -- the run came to the end of the rows
  module _ (p : Progress) (mid : ℕ) (r : RanAll x (bits_named (input_names x)) old.source new.source old.steps mid p (Ok tt)) where
    are_there : RanTo flat [] r.1 p
    are_there = subst (λ (y : Flat). RanTo y [] r.1 p) same r.7

    is_read : text.stimulus (inputs_of led.the_module) r.2 ≡ text.rows r.1
    is_read = subst (λ is. text.stimulus is r.2 ≡ text.rows r.1) inputs r.5

    are_rows : AreRows (inputs_of led.the_module) r.1
    are_rows = subst (λ is. AreRows is r.1) inputs r.6

    pub ran_answers : StopsAreThere → (result : Status) → new.files.faults ≡ old.files.faults
        → ((rows : List (List ℕ)) → RanTo x [] rows p → RunIsWritten lag o x rows p result old.out new.out old.report new.report)
        → Answers layers words old new result
    ran_answers law result s d =
        settled words old new asked_job flat led.the_module o r.1 r.2 p led.stands led.is_design.here.sound ready r.3 is_read are_rows are_there law result s r.0 r.4
        (subst (λ (y : Flat). RunIsWritten lag o y r.1 p result old.out new.out old.report new.report) same (d r.1 r.7))

    pub ran_few : new.steps ≤ mid + cycles_by lag p.failure → AreFew words old new
    ran_few n =
        few_settled words old new asked_job flat led.the_module o r.1 r.2 p led.stands led.is_design.here.sound ready r.3 is_read are_rows are_there mid r.8 n

  -- the run gave up
  pub given_up : (e : StimFault) (p : Progress) (mid : ℕ) (result : Status) → new.files.faults ≡ old.files.faults → IsLeft old.out new.out
      → RanAll x (bits_named (input_names x)) old.source new.source old.steps mid p (Err e)
      → GivesUp e result old.report new.report → Answers layers words old new result
  given_up (s.Refused r) p mid result st kept ran w =
      reported_answers layers words old new asked_job led.asked input (refusal_report r) result (
        refl,
        record {
          job = asked_job;
          the_design = the_design;
          bytes = ran.1;
          short = is_truncated r.kind;
          ready = ready;
          taken = ran.2;
          at_end = λ t. ran.4 (truncated r.kind t);
          judged = (r, subst (λ is. text.stimulus is ran.1 ≡ text.refused r) inputs ran.3, refl, refl);
        },
      )
      (st, ran.0, kept.1) kept.0 w
  given_up s.Read p mid result st kept ran w =
      plain_answers layers words old new reading (report_text a.InputFailed) result (
        refl,
        record {
          job = asked_job;
          the_design = the_design;
          bytes = ran.1;
          ready = ready;
          taken = ran.2;
          rose = ran.0;
          may_go_on = subst (λ is. text.MayGoOn is ran.1) inputs ran.3;
          report_is = refl;
        },
      )
      (st, kept.1) kept.0 w
  given_up s.Memory p mid result st kept ran w =
      memory_answers layers words old new asked_job led.asked result w.0 (st, ran, kept.1) kept.0 w.1

module _ (words : List (List ℕ)) (old new : Outside) (job : Job) (asked : Asks words job) where
  -- a file wasn't loaded
  pub no_file : (name report : List ℕ) (result : Status) → IsFront old.files (files_of job) name → FileCause layers words old new name report
      → new.source.faults ≡ old.source.faults → Keeps old.source.left new.source.left → IsLeft old.out new.out
      → Reported report file result old.report new.report → Answers layers words old new result
  no_file name report result front cause s left out w =
      reported_answers layers words old new job asked file report result (
        refl,
        record {
          job = job;
          before = front.before;
          name = name;
          after = front.after;
          files = front.files;
          asked = asked;
          names_are = front.names_are;
          loaded = front.loaded;
          cause = cause;
          untaken = left;
        },
      )
      (s, out.1) out.0 w
