use Rattle.std.proofs.Common.{length}
use Rattle.design_names.specs.Walk.{todo_all}
use Rattle.design_names.proofs.WalkLaws.{AreBothLinked, Left}
use Rattle.design_names.proofs.walk.outline_of.Given as goal

abbrev pub invariant-loop-task : goal.invariant-loop-task
invariant-loop-task l = record {
  linked : AreBothLinked l.flat l.scopes l.signals;
  left : Left l.flat l.entries.items l.tasks.items;
}

abbrev pub decreases-loop-task : goal.decreases-loop-task
decreases-loop-task l = length (todo_all l.flat l.tasks.items)
