use Rattle.std.proofs.Common.{◌∙◌}
use Rattle.message_text.proofs.RadixLaws.{fewest_counted}
use Rattle.message_text.proofs.radix.fewest_digits.Goals as goal

pub returns-clause-count : goal.returns-clause-count
returns-clause-count c =
    let bits = c.bit_count.ensures in
    c.max.ensures
    ∙ fewest_counted c.args.size c.args.value c.bit_count.result c.all_digits.result c.requires.0 bits.within bits.below
    bits.fewest c.all_digits.ensures.count
