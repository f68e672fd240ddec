use Rattle.std.proofs.Common.{◌*◌, ◌/◌, ◌^◌, arith}
use Rattle.message_text.proofs.RadixLaws.{small_digit}
use Rattle.message_text.proofs.radix.digit_at.Goals as goal

pub digit-requires : goal.digit-requires
digit-requires c =
    omega (arith, c.low_bits.ensures, small_digit (c.args.value / 2 ^ (c.args.size * c.args.place)) c.args.size c.requires.size)
