use Rattle.bit_ops.specs.Operators.{integer}
use Rattle.bit_ops.proofs.Ranges.{integer_residue, integer_held, held_wider}
use Rattle.bit_ops.proofs.laws.extension_law.Goals as goal

pub returns : goal.returns
returns c = λ s v w n wide fits. integer_residue s w (integer s v n) (held_wider s v w (integer s v n) wide (integer_held s v n fits))
