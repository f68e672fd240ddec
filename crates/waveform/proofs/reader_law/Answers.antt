use Rattle.waveform.proofs.ReaderLaws.{recovers}
use Rattle.waveform.proofs.CodeLaws.{codes_differ, number_of_bits-bits}
use Rattle.waveform.proofs.reader_law.Goals as goal

pub returns-clause-recovers : goal.returns-clause-recovers
returns-clause-recovers c = recovers

pub returns-clause-codes_differ : goal.returns-clause-codes_differ
returns-clause-codes_differ c = codes_differ

pub returns-clause-bits_tell : goal.returns-clause-bits_tell
returns-clause-bits_tell c = number_of_bits-bits
