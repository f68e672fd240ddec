use Rattle.waveform.proofs.FormLaws.{formed_read}
use Rattle.waveform.proofs.form.forms_of.Goals as goal

pub loop-number-preserved : goal.loop-number-preserved
loop-number-preserved c =
    formed_read c.args.signals.now c.args.shown.now c.loop-number.forms.items c.push.new.forms.items c.loop-number.number-index
    c.index-signals-number.result c.form_of.result c.loop-number-test.true c.requires.there c.requires.widths
    c.index-signals-number.is c.form_of.ensures.formed c.form_of.ensures.width c.in_ok-push.ensures c.loop-number.invariant
