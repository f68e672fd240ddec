use Rattle.std.proofs.Common.{get_or}
use Rattle.step_program.proofs.Masks.{joined}
use Rattle.step_program.proofs.step.Join.to_left.Goals as goal

pub returns-clause-value : goal.returns-clause-value
returns-clause-value c = λ xs. joined (get_or xs c.args.high 0) (get_or xs c.args.low 0) c.args.width c.requires
