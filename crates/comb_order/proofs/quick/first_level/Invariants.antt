use Rattle.std.proofs.Common.{ℕ, ◌<◌, get_or}
use Rattle.std.specs.Prelude.{None}
use Rattle.comb_order.specs.Labels.{StepsUp}
use Rattle.comb_order.proofs.quick.first_level.Given as goal

-- each part so far steps up
abbrev pub invariant-loop-part : goal.invariant-loop-part
invariant-loop-part l = (p : ℕ) → p < l.part → StepsUp l.labels (get_or l.firsts p None) p
