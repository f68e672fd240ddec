use Rattle.std.proofs.Common.{◌≡◌, List, ℕ, arith, refl, sym, ap, subst, ◌∙◌}
use Rattle.std.specs.Prelude.{IfOk, Err, codes}
use Rattle.std.proofs.KnownBytes.{Keeps-refl, Consumes-nil}
use Rattle.talk.specs.Plain.{plain}
use Rattle.talk.specs.Report.{report_text, fault_text}
use Rattle.vl_tree.specs.Fault.{name_of}
use Rattle.vl_front.specs.Reads.{Reads}
use Rattle.vl_front.specs.declared.fault.DesignFault.TheVariants as f
use Rattle.vl_front.specs.OneModule.{IsDesign}
use Rattle.dessert.specs.Outside.{streams_at}
use Rattle.dessert.specs.Calls.Ended.{status_of}
use Rattle.dessert.proofs.SettledLaw.{takes_bits}
use Rattle.dessert.proofs.StepsLaws.{unread}
use Rattle.dessert.proofs.TopLaws.{asked_is, no_design, faulty, topless, fault_is}
use Rattle.dessert.proofs.top.run_sources.Goals as goal

pub run_design-requires-clause-bits : goal.run_design-requires-clause-bits
run_design-requires-clause-bits g c = takes_bits _ _ c.in-Ok.ensures.2 c.in-Ok.ensures.1.here.sound

pub run_design-requires-clause-undriven : goal.run_design-requires-clause-undriven
run_design-requires-clause-undriven g c = c.in-Ok.ensures.2.undriven

pub returns-in-Ok-clause-answers : goal.returns-in-Ok-clause-answers
returns-in-Ok-clause-answers g c = λ words files led.
    let r = c.in-Ok.ensures in
    let l = led.is_loaded in
    let d = subst (λ x. IsDesign c.args.sources.text.items x r.0) (asked_is c.args.top) r.1 in
    c.run_design.ensures.answers words files (record {
      top = plain c.args.top;
      the_module = r.0;
      files = l.files;
      asked = led.asked;
      loaded = l.loaded;
      counts = l.counts_are;
      is_design = subst (λ (x : List ℕ). IsDesign x (plain c.args.top) r.0) l.text_is d;
      stands = r.2;
    })

pub returns-in-Ok-clause-steps : goal.returns-in-Ok-clause-steps
returns-in-Ok-clause-steps g c = λ words files led.
    let r = c.in-Ok.ensures in
    let l = led.is_loaded in
    let d = subst (λ x. IsDesign c.args.sources.text.items x r.0) (asked_is c.args.top) r.1 in
    c.run_design.ensures.steps words files (record {
      top = plain c.args.top;
      the_module = r.0;
      files = l.files;
      asked = led.asked;
      loaded = l.loaded;
      counts = l.counts_are;
      is_design = subst (λ (x : List ℕ). IsDesign x (plain c.args.top) r.0) l.text_is d;
      stands = r.2;
    })

pub returns-in-Err-At-clause-answers : goal.returns-in-Err-At-clause-answers
returns-in-Err-At-clause-answers g c = λ words files led.
    let h = rw c.in-Err-At.field-0-is at c.in-Err-At.ensures in
    faulty words (streams_at g.S.Source g.V.Sink g.T.Sink files c.args.stimulus.now c.args.out.now c.args.report.now c.args.steps.now)
    (streams_at g.S.Source g.V.Sink g.T.Sink files c.args.stimulus.now c.args.out.now c.finish_made.new.report c.args.steps.now) c.args.lag (plain c.args.top) c.args.sources.origins
    c.args.sources.text.items (status_of c.finish_made.result) led (refl, refl, refl) (Keeps-refl _) (Keeps-refl _)
    (record { phase = c.in-Err-At.field-0-0; line = c.in-Err-At.line; token = h.0; kind = c.in-Err-At.kind }) h.1
    (λ contents counts. c.finish_made.ensures _ (subst (λ (x : List ℕ). IfOk c.design_fault.result (λ it. report_text it ≡ x))
    (ap (λ (n : List ℕ). fault_text c.spot.result.file.now c.spot.result.line n) c.name.ensures ∙ fault_is c.args.sources.origins contents c.in-Err-At.line _ _ (name_of c.in-Err-At.kind) counts c.spot.ensures.file c.spot.ensures.line)
    c.design_fault.ensures))

pub returns-in-Err-At-clause-steps : goal.returns-in-Err-At-clause-steps
returns-in-Err-At-clause-steps g c = λ words files led. unread _ _ _ (Consumes-nil _) (omega arith)

pub returns-in-Err-NoTop-clause-answers : goal.returns-in-Err-NoTop-clause-answers
returns-in-Err-NoTop-clause-answers g c = λ words files led.
    let h = subst (λ x. Reads c.args.sources.text.items x (Err (f.NoTop c.in-Err-NoTop.line))) (asked_is c.args.top) (rw c.in-Err-NoTop.field-0-is at c.in-Err-NoTop.ensures) in
    topless words (streams_at g.S.Source g.V.Sink g.T.Sink files c.args.stimulus.now c.args.out.now c.args.report.now c.args.steps.now)
    (streams_at g.S.Source g.V.Sink g.T.Sink files c.args.stimulus.now c.args.out.now c.finish_made-in-Err-NoTop.new.report c.args.steps.now) c.args.lag (plain c.args.top) c.args.sources.origins
    c.args.sources.text.items (status_of c.finish_made-in-Err-NoTop.result) led (refl, refl, refl) (Keeps-refl _) (Keeps-refl _)
    c.in-Err-NoTop.line h
    (λ contents counts. c.finish_made-in-Err-NoTop.ensures _ (subst (λ (x : List ℕ). IfOk c.design_fault-in-Err-NoTop.result (λ it. report_text it ≡ x))
    (fault_is c.args.sources.origins contents c.in-Err-NoTop.line _ _ (codes "NoTop") counts c.spot-in-Err-NoTop.ensures.file c.spot-in-Err-NoTop.ensures.line)
    c.design_fault-in-Err-NoTop.ensures))

pub returns-in-Err-NoTop-clause-steps : goal.returns-in-Err-NoTop-clause-steps
returns-in-Err-NoTop-clause-steps g c = λ words files led. unread _ _ _ (Consumes-nil _) (omega arith)

pub returns-in-Err-NotYetBuilt-clause-answers : goal.returns-in-Err-NotYetBuilt-clause-answers
returns-in-Err-NotYetBuilt-clause-answers g c = λ words files led.
    let h = subst (λ x. Reads c.args.sources.text.items x (Err f.NotYetBuilt)) (asked_is c.args.top) (rw c.in-Err-NotYetBuilt.field-0-is at c.in-Err-NotYetBuilt.ensures) in
    no_design words (streams_at g.S.Source g.V.Sink g.T.Sink files c.args.stimulus.now c.args.out.now c.args.report.now c.args.steps.now)
    (streams_at g.S.Source g.V.Sink g.T.Sink files c.args.stimulus.now c.args.out.now c.finish.new.report c.args.steps.now) c.args.lag (plain c.args.top) c.args.sources.origins
    c.args.sources.text.items (status_of c.finish.result) led (refl, refl, refl) (Keeps-refl _) (Keeps-refl _) h c.finish.ensures

pub returns-in-Err-NotYetBuilt-clause-steps : goal.returns-in-Err-NotYetBuilt-clause-steps
returns-in-Err-NotYetBuilt-clause-steps g c = λ words files led. unread _ _ _ (Consumes-nil _) (omega arith)

pub returns-clause-steps : goal.returns-clause-steps
returns-clause-steps g c = λ words files led. unread _ _ _ (Consumes-nil _) (omega arith)
