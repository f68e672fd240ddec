use Rattle.std.proofs.Common.{arith}
use Rattle.stimulus.proofs.SingleLaws.{wide_limit}
use Rattle.stimulus.proofs.single.digit_limit.Goals as goal

pub returns-in_default : goal.returns-in_default
returns-in_default c = wide_limit c.args.width (omega (arith, c.in_default.in_default-own))
