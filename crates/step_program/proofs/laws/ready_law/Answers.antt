use Rattle.step_program.proofs.Ready.{ready_narrow, ready_wide}
use Rattle.step_program.proofs.laws.ready_law.Goals as goal

pub returns : goal.returns
returns c = record { narrow = ready_narrow; wide = ready_wide }
