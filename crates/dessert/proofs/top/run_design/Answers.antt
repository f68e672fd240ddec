use Rattle.std.proofs.Common.{◌≤◌, [], refl, sym, ap, subst, ◌∙◌, arith}
use Rattle.std.specs.Prelude.{All}
use Rattle.netlist.specs.Design.{Flat}
use Rattle.vl_stands.specs.StandsFor.{input_names}
use Rattle.window_run.specs.Ran.{RanTo}
use Rattle.dessert.specs.Inputs.{bits_named}
use Rattle.dessert.proofs.InputLaws.{are_narrow}
use Rattle.std.proofs.KnownBytes.{Keeps-refl, Consumes-nil}
use Rattle.dessert.specs.Outside.{sink_at, streams_at}
use Rattle.dessert.specs.Calls.Ended.{status_of}
use Rattle.dessert.specs.Calls.Told.{TakesBits}
use Rattle.dessert.specs.Calls.Written.{RunIsWritten}
use Rattle.dessert.proofs.SettledLaw.{none_driven}
use Rattle.dessert.proofs.StepsLaws.{unread, few_read}
use Rattle.dessert.proofs.TopLaws.{left_as, no_memory, ran_answers, ran_few, given_up}
use Rattle.dessert.proofs.top.run_design.Goals as goal

pub returns-in_default-clause-answers : goal.returns-in_default-clause-answers
returns-in_default-clause-answers g c = λ words files led.
    no_memory words (streams_at g.S.Source g.V.Sink g.T.Sink files c.args.stimulus.now c.args.out.now c.args.report.now c.args.steps.now) (streams_at g.S.Source g.V.Sink g.T.Sink files c.args.stimulus.now c.args.out.now c.args.report.now c.args.steps.now) c.args.lag led.top c.args.origins.now led.asked (refl, refl, refl) (Keeps-refl _) (left_as _)

pub returns-in_default-clause-steps : goal.returns-in_default-clause-steps
returns-in_default-clause-steps g c = λ words files led. unread _ _ _ (Consumes-nil _) (omega arith)

pub returns-in_default-new-clause-answers : goal.returns-in_default-new-clause-answers
returns-in_default-new-clause-answers g c = λ words files led.
    no_memory words (streams_at g.S.Source g.V.Sink g.T.Sink files c.args.stimulus.now c.args.out.now c.args.report.now c.args.steps.now) (streams_at g.S.Source g.V.Sink g.T.Sink files c.args.stimulus.now c.args.out.now c.args.report.now c.args.steps.now) c.args.lag led.top c.args.origins.now led.asked (refl, refl, refl) (Keeps-refl _) (left_as _)

pub returns-in_default-new-clause-steps : goal.returns-in_default-new-clause-steps
returns-in_default-new-clause-steps g c = λ words files led. unread _ _ _ (Consumes-nil _) (omega arith)

pub returns-in_default-start-clause-answers : goal.returns-in_default-start-clause-answers
returns-in_default-start-clause-answers g c = λ words files led.
    no_memory words (streams_at g.S.Source g.V.Sink g.T.Sink files c.args.stimulus.now c.args.out.now c.args.report.now c.args.steps.now) (streams_at g.S.Source g.V.Sink g.T.Sink files c.args.stimulus.now c.args.out.now c.args.report.now c.args.steps.now) c.args.lag led.top c.args.origins.now led.asked (refl, refl, refl) (Keeps-refl _) (left_as _)

pub returns-in_default-start-clause-steps : goal.returns-in_default-start-clause-steps
returns-in_default-start-clause-steps g c = λ words files led. unread _ _ _ (Consumes-nil _) (omega arith)

pub new-requires : goal.new-requires
new-requires g c = subst (λ is. All (λ i. i.width ≤ 128) is) (sym c.in-Ok.ensures) (are_narrow (input_names c.args.flat.now))

pub start-requires-clause-order : goal.start-requires-clause-order
start-requires-clause-order g c = none_driven c.args.flat.now _ refl c.requires.undriven

pub run_rows-requires-clause-inputs : goal.run_rows-requires-clause-inputs
run_rows-requires-clause-inputs g c = c.in-Ok-new.ensures.inputs ∙ c.in-Ok.ensures ∙ ap (λ (x : Flat). bits_named (input_names x)) (sym c.in-Ok-start.ensures.flat)

pub run_rows-requires-clause-ran : goal.run_rows-requires-clause-ran
run_rows-requires-clause-ran g c = subst (λ (x : Flat). RanTo x [] [] c.in-Ok-start.run') (sym c.in-Ok-start.ensures.flat) c.in-Ok-start.ensures.ran

pub run_rows-requires-clause-bits : goal.run_rows-requires-clause-bits
run_rows-requires-clause-bits g c = subst TakesBits (sym c.in-Ok-start.ensures.flat) c.requires.bits

pub settle-requires-clause-ran : goal.settle-requires-clause-ran
settle-requires-clause-ran g c =
    let r = c.in-Ok-run_rows.ensures.ran in (r.1, subst (λ (x : Flat). RanTo x [] r.1 c.run_rows.new.run) (sym c.run_rows.ensures.flat) r.7)

pub settle-requires-clause-lag : goal.settle-requires-clause-lag
settle-requires-clause-lag g c = c.run_rows.ensures.lag ∙ c.in-Ok-start.ensures.lag

pub returns-in-Ok-run_rows-clause-answers : goal.returns-in-Ok-run_rows-clause-answers
returns-in-Ok-run_rows-clause-answers g c = λ words files led.
    ran_answers words (streams_at g.S.Source g.V.Sink g.T.Sink files c.args.stimulus.now c.args.out.now c.args.report.now c.args.steps.now)
    (streams_at g.S.Source g.V.Sink g.T.Sink files c.run_rows.new.source c.settle.new.out c.settle.new.report c.settle.new.steps) c.args.lag c.args.origins.now
    c.args.flat.now c.in-Ok-start.run'.flat led c.in-Ok-start.ensures.flat c.run_rows.new.run c.run_rows.new.steps c.in-Ok-run_rows.ensures.ran c.stops_law.ensures (status_of c.settle.result) refl
    (λ rows r. subst (λ (x : Flat). RunIsWritten c.args.lag c.args.origins.now x rows c.run_rows.new.run (status_of c.settle.result)
    (sink_at g.V.Sink c.args.out.now) (sink_at g.V.Sink c.settle.new.out) (sink_at g.T.Sink c.args.report.now) (sink_at g.T.Sink c.settle.new.report)) c.run_rows.ensures.flat
    (c.settle.ensures.written rows (subst (λ (x : Flat). RanTo x [] rows c.run_rows.new.run) (sym c.run_rows.ensures.flat) r)))

pub returns-in-Ok-run_rows-clause-steps : goal.returns-in-Ok-run_rows-clause-steps
returns-in-Ok-run_rows-clause-steps g c = λ words files led.
    ran_few words (streams_at g.S.Source g.V.Sink g.T.Sink files c.args.stimulus.now c.args.out.now c.args.report.now c.args.steps.now)
    (streams_at g.S.Source g.V.Sink g.T.Sink files c.run_rows.new.source c.settle.new.out c.settle.new.report c.settle.new.steps) c.args.lag c.args.origins.now
    c.args.flat.now c.in-Ok-start.run'.flat led c.in-Ok-start.ensures.flat c.run_rows.new.run c.run_rows.new.steps c.in-Ok-run_rows.ensures.ran c.settle.ensures.steps

pub returns-clause-answers : goal.returns-clause-answers
returns-clause-answers g c = λ words files led.
    given_up words (streams_at g.S.Source g.V.Sink g.T.Sink files c.args.stimulus.now c.args.out.now c.args.report.now c.args.steps.now)
    (streams_at g.S.Source g.V.Sink g.T.Sink files c.run_rows.new.source c.args.out.now c.give_up.new.report c.run_rows.new.steps) c.args.lag c.args.origins.now
    c.args.flat.now c.in-Ok-start.run'.flat led c.in-Ok-start.ensures.flat c.in-Err.fault c.run_rows.new.run c.run_rows.new.steps (status_of c.give_up.result) refl (left_as _) c.in-Err.ensures.ran c.give_up.ensures

pub returns-clause-steps : goal.returns-clause-steps
returns-clause-steps g c = λ words files led. few_read _ _ _ c.run_rows.ensures.steps
