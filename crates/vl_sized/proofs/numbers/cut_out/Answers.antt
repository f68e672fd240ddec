use Rattle.std.proofs.Common.{◌∙◌, subst}
use Rattle.vl_width.specs.Objects.{plain_shape}
use Rattle.vl_sized.specs.Worth.{Stands}
use Rattle.vl_sized.proofs.Worths.{far_cut}
use Rattle.vl_sized.proofs.numbers.cut_out.Goals as goal

pub returns-in-None-clause-value : goal.returns-in-None-clause-value
returns-in-None-clause-value c = λ z h.
    c.low_bits.ensures.value
    ∙ far_cut (plain_shape c.args.shape) z c.args.count c.args.size.width c.args.number c.args.shape.bounded.1 c.ranges.count.fits
    (subst (Stands z) c.in-None.is h) c.ranges.number.fits
