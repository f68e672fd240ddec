use Rattle.bit_ops.proofs.DivisionLaws.{fits_together}
use Rattle.bit_ops.proofs.laws.division_law.Goals as goal

pub returns : goal.returns
returns c = λ s w a b fits_a fits_b some. fits_together s w a b fits_a fits_b some
