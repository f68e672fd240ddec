use Rattle.std.proofs.Common.{rules}
use Rattle.vl_lex.proofs.NumberLaws.{tells_plain}
use Rattle.vl_lex.proofs.numbers.read_number.Goals as goal

pub returns-clause-tells : goal.returns-clause-tells
returns-clause-tells c = tells_plain c.args.bytes.now _ _ _ c.read_plain.result c.count_decimal.ensures.count c.split_at.ensures.front c.split_at.ensures.back c.in_default.ensures.format (search rules) c.read_plain.ensures.tells
