use Rattle.std.proofs.Common.{◌∙◌}
use Rattle.step_program.specs.Running.{whole_of}
use Rattle.step_program.proofs.Wholes.{far_select}
use Rattle.step_program.proofs.rare.selected.Goals as goal

pub returns-in-None-clause-value : goal.returns-in-None-clause-value
returns-in-None-clause-value c =
    c.of.ensures.value ∙ far_select (whole_of c.args.place) c.args.of.width c.args.width c.args.of.value
    c.in-None.ensures.none c.args.of.wide.1 c.requires.1 c.args.of.fits
