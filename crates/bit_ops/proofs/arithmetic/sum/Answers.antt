use Rattle.std.proofs.Common.{◌+◌, ◌∙◌}
use Rattle.bit_ops.proofs.Residues.{low_low}
use Rattle.bit_ops.proofs.arithmetic.sum.Goals as goal

pub returns-clause-value : goal.returns-clause-value
returns-clause-value c = c.cut.ensures.value ∙ low_low 128 c.args.width (c.args.a + c.args.b) c.requires.1
