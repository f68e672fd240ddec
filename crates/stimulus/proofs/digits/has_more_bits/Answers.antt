use Rattle.std.proofs.Common.{arith}
use Rattle.stimulus.proofs.DigitLaws.{few_large, few_small}
use Rattle.stimulus.proofs.digits.has_more_bits.Goals as goal

pub returns-then-width-lt64 : goal.returns-then-width-lt64
returns-then-width-lt64 c = few_large c.args.value c.args.width

pub returns-else-width-lt64 : goal.returns-else-width-lt64
returns-else-width-lt64 c = few_small c.args.value c.args.width (omega (arith, c.ranges.value)) (omega arith)
