use Rattle.step_program.specs.Running.{whole_of}
use Rattle.step_program.proofs.Wholes.{far_insert}
use Rattle.step_program.proofs.rare.inserted.Goals as goal

pub returns-in-None-clause-value : goal.returns-in-None-clause-value
returns-in-None-clause-value c =
    far_insert (whole_of c.args.place) c.args.of.width c.args.part.width c.args.part.value c.args.of.value
    c.places_law.ensures.beside c.in-None.ensures.none c.args.of.wide.1 c.args.part.wide.1 c.args.of.fits
