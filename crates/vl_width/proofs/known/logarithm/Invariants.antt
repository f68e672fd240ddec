use Rattle.std.proofs.Common.{◌≡◌, ◌^◌, ◌-◌, ◌≤◌, ◌<◌, ℕ, false}
use Rattle.std.specs.Prelude.{nat_le}
use Rattle.vl_width.proofs.known.logarithm.Given as goal

abbrev pub invariant-loop-k : goal.invariant-loop-k
invariant-loop-k l = record {
  within : l.k ≤ l.a.width;
  below : (j : ℕ) → j < l.k → nat_le l.a.value (2 ^ j) ≡ false;
}

abbrev pub decreases-loop-k : goal.decreases-loop-k
decreases-loop-k l = l.a.width - l.k
