use Rattle.message_text.proofs.RadixLaws.{bits_below, bits_fewest}
use Rattle.message_text.proofs.radix.bit_count.Goals as goal

pub returns-clause-below : goal.returns-clause-below
returns-clause-below c = bits_below c.args.value c.ranges.value.fits

pub returns-clause-fewest : goal.returns-clause-fewest
returns-clause-fewest c = bits_fewest c.args.value c.ranges.value.fits
