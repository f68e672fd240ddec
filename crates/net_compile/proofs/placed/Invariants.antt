use Rattle.std.proofs.Common.{◌≡◌, ℕ, ◌<◌, length, get_or}
use Rattle.std.specs.Prelude.{None, IsSomeAnd}
use Rattle.step_program.specs.Table.{stands}
use Rattle.net_compile.specs.Cycle.{slot_at}
use Rattle.net_compile.proofs.placed.Given as goal

-- each slot so far has its place
abbrev pub invariant-loop-slot : goal.invariant-loop-slot
invariant-loop-slot l = record {
  count : length l.found.items ≡ l.slot-index;
  each : (n : ℕ) → n < l.slot-index → IsSomeAnd (get_or l.slots n None) (λ s. slot_at l.found.items n ≡ stands l.placement s);
}
