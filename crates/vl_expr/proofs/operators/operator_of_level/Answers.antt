use Rattle.std.proofs.Common.{◌∙◌, sym}
use Rattle.vl_expr.proofs.Levels.{no_level}
use Rattle.vl_expr.proofs.operators.operator_of_level.Goals as goal

pub returns-in-None : goal.returns-in-None
returns-in-None c = no_level c.args.mark (sym c.binary_of.ensures ∙ c.in-None.is) c.args.wanted c.requires.0 c.requires.1
