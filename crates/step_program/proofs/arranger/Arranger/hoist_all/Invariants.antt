use Rattle.step_program.specs.Draft.{Draft}
use Rattle.step_program.specs.Arranging.{AllOwn, IsOpening}
use Rattle.step_program.proofs.arranger.Arranger.hoist_all.Given as goal

abbrev pub invariant-loop-entry : goal.invariant-loop-entry
invariant-loop-entry l = (d : Draft) → AllOwn d l.entries → IsOpening d l.initial.self → IsOpening d l.self
