use Rattle.vl_width.proofs.Tables.{unary_fits}
use Rattle.vl_width.proofs.term.applied_to.Goals as goal

pub of-requires-clause-fits : goal.of-requires-clause-fits
of-requires-clause-fits c =
    rw (c.value.ensures, c.width.ensures) (unary_fits c.args.operator c.args.a.width c.unary.result.width c.unary.result.value c.args.a.wide.0 c.unary.ensures.width c.unary.result.fits)
