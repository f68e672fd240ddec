use Rattle.step_program.specs.Draft.{Draft}
use Rattle.step_program.specs.Arranging.{AllOwn, IsArranged}
use Rattle.step_program.proofs.arranger.Arranger.place_in.Given as goal

abbrev pub invariant-loop-place : goal.invariant-loop-place
invariant-loop-place l = (d : Draft) → AllOwn d l.entries → IsArranged d l.initial.self → IsArranged d l.self
