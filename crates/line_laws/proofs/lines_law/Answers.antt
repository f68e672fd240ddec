use Rattle.line_laws.proofs.Lines.{lines_law}
use Rattle.line_laws.proofs.lines_law.Goals as goal

pub returns : goal.returns
returns c = lines_law
