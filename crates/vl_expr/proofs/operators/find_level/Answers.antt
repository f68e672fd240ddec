use Rattle.std.proofs.Common.{arith}
use Rattle.vl_expr.proofs.Common.{not_at}
use Rattle.vl_expr.proofs.operators.find_level.Goals as goal

pub returns-then-level-lower : goal.returns-then-level-lower
returns-then-level-lower c = λ n i j. not_at n c.args.at.now (λ h. omega (arith, h, i, c.next_level-level.ensures, c.if-level-lower.true))

pub returns-else-level-limit : goal.returns-else-level-limit
returns-else-level-limit c = λ n i j. not_at n c.args.at.now (λ h. omega (arith, h, j, c.next_level-level.ensures, c.if-level-limit.false))
