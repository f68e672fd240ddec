use Rattle.std.proofs.Common.{◌≡◌, drop, length}
use Rattle.step_program.specs.Plan.{held}
use Rattle.held_state.specs.Slots.{with_numbers}
use Rattle.held_state.proofs.given.put_all.Given as goal

-- what is left to put, put to what stands now, is all
abbrev pub invariant-loop-k : goal.invariant-loop-k
invariant-loop-k l = record {
  narrow : length l.values.narrow.items ≡ length l.fn.values.narrow.items;
  wide : length l.values.wide.items ≡ length l.fn.values.wide.items;
  all : with_numbers (held l.values) (drop l.k l.found) (drop l.k l.numbers) ≡ with_numbers (held l.fn.values) l.found l.numbers;
}
