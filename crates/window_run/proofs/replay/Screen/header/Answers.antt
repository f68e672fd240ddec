use Rattle.std.proofs.Common.{subst, []}
use Rattle.design_names.specs.Shown.{flat_scope}
use Rattle.waveform.specs.Vcd.{vcd_text}
use Rattle.waveform.specs.Writes.{WritesText}
use Rattle.window_run.proofs.replay.Screen.header.Goals as goal

pub returns-clause-text : goal.returns-clause-text
returns-clause-text g c = λ first.
    subst (λ w. WritesText (g.K.Sink.held c.args.out.now) (g.K.Sink.held c.header.new.out) (g.K.Sink.faults c.args.out.now)
    (g.K.Sink.faults c.header.new.out) (vcd_text (flat_scope w.design) first []) c.header.result) c.self.view_is
    (c.header.ensures.text first)
