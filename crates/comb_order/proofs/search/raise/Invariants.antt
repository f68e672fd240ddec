use Rattle.std.proofs.Common.{◌≡◌, ℕ, ◌<◌, ◌≤◌, get_or}
use Rattle.std.specs.Prelude.{None}
use Rattle.comb_order.specs.Labels.{Raised}
use Rattle.comb_order.proofs.search.raise.Given as goal

-- each label so far is raised, and the others stand
abbrev pub invariant-loop-part : goal.invariant-loop-part
invariant-loop-part l = record {
  raised : (p : ℕ) → p < l.part
      → Raised l.ranks (get_or l.firsts p None) (get_or l.initial.labels p 0) (get_or l.labels p 0);
  others : (p : ℕ) → l.part ≤ p → get_or l.labels p 0 ≡ get_or l.initial.labels p 0;
}
