use Rattle.std.proofs.Common.{ℕ, ◌<◌, get_or}
use Rattle.std.specs.Prelude.{None}
use Rattle.comb_order.specs.Distance.{HasSupport}
use Rattle.comb_order.proofs.distance.are_supported.Given as goal

-- each rank so far is supported
abbrev pub invariant-loop-part : goal.invariant-loop-part
invariant-loop-part l = (p : ℕ) → p < l.part → HasSupport l.to l.ranks (get_or l.firsts.items p None) p
