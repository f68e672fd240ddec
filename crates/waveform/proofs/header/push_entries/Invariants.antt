use Rattle.waveform.proofs.HeadingLaws.{Headed}
use Rattle.waveform.proofs.header.push_entries.Given as goal

abbrev pub invariant-loop-entry : goal.invariant-loop-entry
invariant-loop-entry l = Headed l.flat l.fn.text.items l.text.items l.outline l.entry-index l.number
