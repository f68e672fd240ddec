use Rattle.vl_lex.proofs.DigitLaws.{wild_is}
use Rattle.vl_lex.proofs.digits.wild_bits.Goals as goal

pub returns-clause-value : goal.returns-clause-value
returns-clause-value c =
    wild_is c.args.base c.args.width c.args.digits.now c.digit_bits.result c.wild_left.result c.wild_after-wild.result c.low_bits.result c.requires c.digit_bits.ensures.value c.wild_left.ensures
    c.wild_after-wild.ensures c.low_bits.ensures.value
