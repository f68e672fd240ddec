use Rattle.std.proofs.Common.{◌∙◌}
use Rattle.bit_ops.proofs.Signs.{rank_is, bit_from_byte}
use Rattle.bit_ops.proofs.compare.ranked.Goals as goal

pub returns : goal.returns
returns c =
    rank_is c.args.signed c.args.width c.args.value c.from.result c.requires.width.0 c.requires.width.1 c.requires.fits (c.from.ensures ∙ bit_from_byte c.args.signed)
