use Rattle.step_program.specs.Arranging.{IsStart}
use Rattle.step_program.proofs.placement.numbers.Given as goal

abbrev pub invariant-loop-number : goal.invariant-loop-number
invariant-loop-number l = IsStart l.given l.number l.numbers.items
