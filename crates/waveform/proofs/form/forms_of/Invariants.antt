use Rattle.waveform.proofs.FormLaws.{Formed}
use Rattle.waveform.proofs.form.forms_of.Given as goal

abbrev pub invariant-loop-number : goal.invariant-loop-number
invariant-loop-number l = Formed l.signals l.shown l.forms.items l.number-index
