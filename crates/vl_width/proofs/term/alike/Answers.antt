use Rattle.vl_width.proofs.Tables.{binary_fits}
use Rattle.vl_width.proofs.term.alike.Goals as goal

pub of-requires-clause-fits : goal.of-requires-clause-fits
of-requires-clause-fits c =
    rw (c.value.ensures, c.width.ensures) (binary_fits c.args.operator c.args.a.width c.binary.result.width c.binary.result.value c.args.a.wide.0 c.binary.ensures.width c.binary.result.fits)
