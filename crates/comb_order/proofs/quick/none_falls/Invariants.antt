use Rattle.std.proofs.Common.{ℕ, ◌<◌, get_or}
use Rattle.std.specs.Prelude.{None}
use Rattle.comb_order.specs.Labels.{NeverFalls}
use Rattle.comb_order.proofs.quick.none_falls.Given as goal

-- no part so far falls
abbrev pub invariant-loop-part : goal.invariant-loop-part
invariant-loop-part l = (p : ℕ) → p < l.part → NeverFalls l.labels (get_or l.firsts p None) p
