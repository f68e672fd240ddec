use Rattle.std.proofs.Common.{◌≡◌, drop}
use Rattle.flat_sim.specs.Signals.{with_driven}
use Rattle.flat_sim.proofs.signals.with_driven.Given as goal

abbrev pub invariant-loop-k : goal.invariant-loop-k
invariant-loop-k l = record {
  width : l.value.width ≡ l.fn.value.width;
  all : with_driven l.signal l.fn.value.width (drop l.k l.parts) l.nodes.numbers l.value.value
      ≡ with_driven l.signal l.fn.value.width l.parts l.nodes.numbers l.fn.value.value;
}
