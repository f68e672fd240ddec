use Rattle.std.proofs.Common.{◌∙◌}
use Rattle.bit_ops.proofs.Residues.{low_negated}
use Rattle.bit_ops.proofs.arithmetic.negated.Goals as goal

pub returns-clause-value : goal.returns-clause-value
returns-clause-value c = c.cut.ensures.value ∙ low_negated 128 c.args.width c.args.a c.requires.1 c.ranges.a.fits
