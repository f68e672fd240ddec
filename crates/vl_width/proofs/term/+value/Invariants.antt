use Rattle.std.proofs.Common.{◌≡◌, drop}
use Rattle.vl_width.specs.Terms.{run_terms}
use Rattle.vl_width.proofs.term.+value.Given as goal

abbrev pub invariant-after-loop-step : goal.invariant-after-loop-step
invariant-after-loop-step l = record {
  width : l.value.width ≡ l.size.width;
  value : run_terms l.size.width l.size.signed l.value.value (drop l.step-index l.steps) ≡ run_terms l.size.width l.size.signed l.fn.first.value l.steps;
}
