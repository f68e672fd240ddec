use Rattle.std.proofs.Common.{◌∙◌, arith}
use Rattle.dt_core.proofs.ByteLaws.{low_bits}
use Rattle.packed_rows.proofs.unpack.split.Goals as goal

pub returns-clause-value : goal.returns-clause-value
returns-clause-value c = c.from.ensures ∙ low_bits c.args.held.bits 64 c.args.width (omega arith)
