use Rattle.std.proofs.Common.{arith}
use Rattle.net_compile.proofs.Numerals.{known_integer}
use Rattle.net_compile.proofs.operand.numeral.Goals as goal

pub returns-else-not-is_plain : goal.returns-else-not-is_plain
returns-else-not-is_plain c = (
  c.in-Constant.is,
  known_integer c.args.signed c.args.node.width c.in-Constant.value (omega arith)
      (c.is_plain.ensures c.if-not-is_plain.false),
)
