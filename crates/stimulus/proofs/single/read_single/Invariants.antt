-- Of the values so far each is read, whatever the others are.
use Rattle.std.proofs.Common.{◌≡◌, ℕ, ◌*◌, ◌++◌, List, length, take, drop}
use Rattle.stimulus.specs.Calls.Single.{AreSingle}
use Rattle.stimulus.proofs.single.read_single.Given as goal

abbrev pub invariant-loop-k : goal.invariant-loop-k
invariant-loop-k l = record {
  read : (vs : List ℕ) → AreSingle (drop l.k l.limits) (drop (2 * l.k) l.bytes) vs → AreSingle l.limits l.bytes (take l.k l.values ++ vs);
  size : length l.values ≡ length l.limits;
}
