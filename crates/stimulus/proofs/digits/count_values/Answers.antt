use Rattle.std.proofs.Common.{◌+◌, ◌∙◌, ap, arith}
use Rattle.stimulus.proofs.ValueLaws.{count_law}
use Rattle.stimulus.proofs.digits.count_values.Goals as goal

pub returns : goal.returns
returns c = ap (λ n. n + 1) c.count_spaces.ensures.count ∙ count_law c.args.line.now (grind (arith, c.if-is_empty.ensures, c.is_empty.ensures))
