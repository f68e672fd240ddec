use Rattle.std.proofs.Common.{◌≡◌, List, ℕ, ◌++◌, ap, ◌∙◌, subst, Ok}
use Rattle.netlist.specs.Design.{Flat}
use Rattle.design_names.specs.Shown.{flat_scope}
use Rattle.waveform.specs.Writer.{Writer}
use Rattle.waveform.specs.Vcd.{header_text}
use Rattle.waveform.specs.Writes.{WritesText}
use Rattle.waveform.proofs.Cycles.{header_written, all_written}
use Rattle.waveform.proofs.writer.VcdWriter.header.Goals as goal

pub returns-clause-text : goal.returns-clause-text
returns-clause-text g c = λ first.
    let design : c.self.inside.flat.now ≡ c.args.self.now.design = ap (λ (w : Writer). w.design) c.self.view_is in
    let pushed : c.push_header.new.text.items ≡ c.clear.new.self.items ++ header_text (flat_scope c.self.inside.flat.now) =
    c.in_default.ensures in
    let same : c.deref.result.now ≡ header_text (flat_scope c.args.self.now.design) =
    c.deref.ensures.value ∙ pushed
    ∙ ap (λ (xs : List ℕ). xs ++ header_text (flat_scope c.self.inside.flat.now)) c.clear.ensures.items
    ∙ ap (λ (f : Flat). header_text (flat_scope f)) design in
    header_written (flat_scope c.args.self.now.design) first _ _ _ _ _
    (subst (λ (text : List ℕ). WritesText (g.K.Sink.held c.args.out.now) (g.K.Sink.held c.write_all.new.sink)
    (g.K.Sink.faults c.args.out.now) (g.K.Sink.faults c.write_all.new.sink) text (Ok tt)) same
    (all_written _ _ _ _ _ c.in_default-write_all.ensures.whole c.write_all.ensures.part c.in_default-write_all.ensures.cause.kept))
