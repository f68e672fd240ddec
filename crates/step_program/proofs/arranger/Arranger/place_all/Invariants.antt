use Rattle.std.proofs.Common.{drop}
use Rattle.step_program.specs.Draft.{Draft}
use Rattle.step_program.specs.Arranging.{HasEntries, IsArranged}
use Rattle.step_program.proofs.Arranges.{Progress}
use Rattle.step_program.proofs.arranger.Arranger.place_all.Given as goal

abbrev pub invariant-loop-entry : goal.invariant-loop-entry
invariant-loop-entry l =
    (d : Draft) → HasEntries d l.entries → IsArranged d l.initial.self → Progress d l.self (drop l.entry-index l.entries)
