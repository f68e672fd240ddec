-- Each place so far is its own number.
use Rattle.std.proofs.Common.{◌≡◌, ℕ, ◌<◌, get_or}
use Rattle.stimulus.proofs.columns.are_in_order.Given as goal

abbrev pub invariant-loop-k : goal.invariant-loop-k
invariant-loop-k l = record {
  same : (j d : ℕ) → j < l.k → get_or l.places j d ≡ j;
}
