use Rattle.std.proofs.Common.{◌≡◌, ℕ, length, get_or}
use Rattle.std.specs.Prelude.{None}
use Rattle.net_compile.proofs.lower.no_slots.Given as goal

-- none so far
abbrev pub invariant-loop : goal.invariant-loop
invariant-loop l = record {
  count : length l.slots.items ≡ l.counter;
  none : (n : ℕ) → get_or l.slots.items n None ≡ None;
}
