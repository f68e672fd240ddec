use Rattle.std.proofs.Common.{sym, ℕ, ◌+◌, ◌^◌, ◌<◌, subst}
use Rattle.bit_ops.proofs.Inserts.{joined_is, joined_fits}
use Rattle.bit_ops.proofs.places.joined.Goals as goal

pub returns-clause-value : goal.returns-clause-value
returns-clause-value c = joined_is 128 c.args.high c.args.above c.args.low c.args.width c.requires.fits.0 c.requires.fits.1 c.requires.widths.2

pub returns-clause-fits : goal.returns-clause-fits
returns-clause-fits c =
    subst (λ (k : ℕ). k < 2 ^ (c.args.above + c.args.width)) (sym (joined_is 128 c.args.high c.args.above c.args.low c.args.width c.requires.fits.0 c.requires.fits.1 c.requires.widths.2))
    (joined_fits c.args.high c.args.above c.args.low c.args.width c.requires.fits.0 c.requires.fits.1)
