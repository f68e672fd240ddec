use Rattle.std.proofs.Common.{◌/◌, ◌^◌, arith}
use Rattle.dt_core.proofs.ByteLaws.{low_bits}
use Rattle.dt_core.proofs.packing.field.Goals as goal

pub returns : goal.returns
returns c = low_bits (c.args.value / 2 ^ c.args.low) 128 c.args.count (omega arith)
