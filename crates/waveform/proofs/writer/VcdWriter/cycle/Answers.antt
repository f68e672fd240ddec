use Rattle.std.proofs.Common.{◌≡◌, List, ℕ, map, ap, ◌∙◌, subst, refl, Ok, Err}
use Rattle.netlist.specs.Design.{Flat}
use Rattle.design_names.specs.Variables.{variables_of}
use Rattle.design_names.specs.Shown.{flat_scope}
use Rattle.waveform.specs.Vcd.{lines_text}
use Rattle.waveform.specs.Cycle.{cycle_lines, form_variable}
use Rattle.waveform.specs.Writes.{WritesText}
use Rattle.waveform.specs.Writer.{Writer}
use Rattle.waveform.specs.declared.form.Form.{Form}
use Rattle.waveform.specs.declared.progress.Progress.TheVariants as progress
use Rattle.waveform.specs.declared.fault.VcdFault.TheVariants as fault
use Rattle.waveform.proofs.Cycles.{cycle_written, written_more, none_written, part_written, all_written}
use Rattle.waveform.proofs.FormLaws.{lines_are}
use Rattle.waveform.proofs.writer.VcdWriter.cycle.Goals as goal
use Rattle.waveform.proofs.writer.VcdWriter.cycle.Goals.{In_default}

pub returns-in-Err-clause-text : goal.returns-in-Err-clause-text
returns-in-Err-clause-text g c = λ first cycles h e.
    let w = c.args.self.now in
    cycle_written w.written w.last (flat_scope w.design) first c.args.cycle cycles c.args.values.now _ _ _ _ _ h e
    (none_written _ _ _)

-- what was pushed are the lines of the cycle
pushed : (g : _) (c : In_default g) → c.push_cycle.new.text.items
    ≡ lines_text (cycle_lines c.args.self.now.written (variables_of (flat_scope c.args.self.now.design)) c.args.cycle
    c.args.self.now.last c.args.values.now)
pushed g c =
    let design : c.self.inside.flat.now ≡ c.args.self.now.design = ap (λ (x : Writer). x.design) c.self.view_is in
    lines_are c.self.inside.flat.now _ _ _ c.args.self.now.written c.deref.result.now _ _ c.args.self.now.last _
    c.in_default.ensures c.clear.ensures.items (ap (λ (x : Writer). x.written) c.self.view_is)
    (c.deref-2.ensures.value ∙ ap (λ (x : Writer). x.last) c.self.view_is)
    (ap (λ (xs : List Form). map form_variable xs) c.deref.ensures.value ∙ c.self.invariant.formed)
    ∙ ap (λ (f : Flat). lines_text (cycle_lines c.args.self.now.written (variables_of (flat_scope f)) c.args.cycle
    c.args.self.now.last c.args.values.now)) design

pub returns-in-Err-write_all-clause-text : goal.returns-in-Err-write_all-clause-text
returns-in-Err-write_all-clause-text g c = λ first cycles h e.
    let w = c.args.self.now in
    cycle_written w.written w.last (flat_scope w.design) first c.args.cycle cycles c.args.values.now _ _ _ _ _ h e
    (subst (λ (text : List ℕ). WritesText (g.K.Sink.held c.args.out.now) (g.K.Sink.held c.write_all.new.sink)
    (g.K.Sink.faults c.args.out.now) (g.K.Sink.faults c.write_all.new.sink) text (Err fault.Write))
    (c.deref-3.ensures.value ∙ pushed g (goal.at.returns-in-Err-write_all-clause-text g c).In_default)
    (part_written _ _ _ _ _ c.write_all.ensures.part c.write_all.ensures.cause.later c.in-Err-write_all.ensures.cause.failed))

pub returns-clause-text : goal.returns-clause-text
returns-clause-text g c = λ first cycles h e.
    let w = c.args.self.now in
    cycle_written w.written w.last (flat_scope w.design) first c.args.cycle cycles c.args.values.now _ _ _ _ _ h e
    (subst (λ (text : List ℕ). WritesText (g.K.Sink.held c.args.out.now) (g.K.Sink.held c.write_all.new.sink)
    (g.K.Sink.faults c.args.out.now) (g.K.Sink.faults c.write_all.new.sink) text (Ok tt))
    (c.deref-3.ensures.value ∙ pushed g (goal.at.returns-clause-text g c).In_default)
    (all_written _ _ _ _ _ c.in_default-write_all.ensures.whole c.write_all.ensures.part c.in_default-write_all.ensures.cause.kept))

pub returns-clause-written : goal.returns-clause-written
returns-clause-written g c = λ cycles h.
    written_more progress.Cycles c.copy_from_slice.new.self.items cycles c.args.values.now refl c.copy_from_slice.ensures.items
