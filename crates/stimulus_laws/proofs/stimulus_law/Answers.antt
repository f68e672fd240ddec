use Rattle.std.proofs.Common.{sym, subst}
use Rattle.stimulus.specs.Fits.{AreRows}
use Rattle.stimulus_laws.proofs.GluedLaws.{stays_refused, may_go_on}
use Rattle.stimulus_laws.proofs.FitLaws.{lines_fit}
use Rattle.stimulus_laws.proofs.stimulus_law.Goals as goal

pub returns-clause-stays : goal.returns-clause-stays
returns-clause-stays c = stays_refused

pub returns-clause-goes_on : goal.returns-clause-goes_on
returns-clause-goes_on c = may_go_on

pub returns-clause-fits : goal.returns-clause-fits
returns-clause-fits c reader taken given s named = subst (AreRows reader.inputs) (sym s.are_rows) (lines_fit reader.inputs s.lines named s.passed)
