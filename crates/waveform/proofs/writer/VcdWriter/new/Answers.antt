use Rattle.std.proofs.Common.{◌≡◌, length, arith}
use Rattle.std.proofs.lemmas.Grind.{common_steps}
use Rattle.waveform.proofs.FormLaws.{shown_there, widths_fit, holds_new}
use Rattle.waveform.proofs.writer.VcdWriter.new.Goals as goal

pub forms_of-requires-clause-there : goal.forms_of-requires-clause-there
forms_of-requires-clause-there c =
    shown_there c.args.flat.now c.signals.result.now c.in_ok-names.names c.shown.result.now c.signals.ensures.signals
    c.in_ok-names.ensures c.shown.ensures

pub forms_of-requires-clause-widths : goal.forms_of-requires-clause-widths
forms_of-requires-clause-widths c =
    widths_fit c.args.flat.now c.signals.result.now c.signals.ensures.fits c.signals.ensures.signals

pub invariant_of-result : goal.invariant_of-result
invariant_of-result c =
    let room : length c.in_ok-last.last.items ≡ length c.in_ok-forms.forms.items =
    first_of (omega (arith, c.in_ok-last.ensures.len, c.len.ensures), grind (arith, common_steps)) in
    holds_new c.args.flat.now c.signals.result.now c.in_ok-names.names c.in_ok-forms.forms.items c.in_ok-last.last.items
    c.shown.result.now c.signals.ensures.fits c.signals.ensures.signals c.in_ok-names.ensures c.shown.ensures
    c.in_ok-forms.ensures.formed c.in_ok-forms.ensures.widths room
