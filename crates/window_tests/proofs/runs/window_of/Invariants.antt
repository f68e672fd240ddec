use Rattle.std.proofs.Common.{◌≡◌, ℕ, List, length}
use Rattle.window_run.specs.Ran.{RanTo}
use Rattle.window_tests.proofs.runs.window_of.Given as goal

abbrev pub invariant-loop : goal.invariant-loop
invariant-loop g l = record {
  ran : (order : List ℕ) × (rows : List (List ℕ)) × RanTo l.flat order rows l.run × (length rows ≡ l.counter);
  flat : l.run.flat ≡ l.flat;
}
