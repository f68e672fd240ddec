use Rattle.std.proofs.Common.{arith}
use Rattle.step_program.proofs.program.Program.first.Goals as goal

pub overflow_add-result : goal.overflow_add-result
overflow_add-result c = omega arith

pub overflow_add-result-2 : goal.overflow_add-result-2
overflow_add-result-2 c = omega arith
