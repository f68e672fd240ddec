use Rattle.comb_order.specs.Labels.{RiseBelow}
use Rattle.comb_order.specs.Round.{IsLeast}
use Rattle.comb_order.proofs.search.searched.Given as goal

-- no part so far reads itself, and labels rise to each of them
abbrev pub invariant-loop-part : goal.invariant-loop-part
invariant-loop-part l = record {
  rise : RiseBelow l.flat l.part l.labels.items;
  least : IsLeast l.flat l.part;
}
