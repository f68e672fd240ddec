use Rattle.std.proofs.Common.{arith}
use Rattle.dt_core.proofs.ByteLaws.{low_bits}
use Rattle.message_text.proofs.radix.low_bits.Goals as goal

pub returns : goal.returns
returns c = low_bits c.args.value 128 c.args.count (omega arith)
