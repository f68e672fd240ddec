use Rattle.bit_ops.proofs.PlaceLaws.{right_part, left_part, both_parts}
use Rattle.bit_ops.proofs.laws.concatenation_law.Goals as goal

pub returns-clause-parts : goal.returns-clause-parts
returns-clause-parts c = λ v w a b fits_a fits_b. record { right = right_part w a b fits_b; left = left_part v w a b fits_a fits_b }

pub returns-clause-whole : goal.returns-clause-whole
returns-clause-whole c = λ v w n fits. both_parts v w n fits
