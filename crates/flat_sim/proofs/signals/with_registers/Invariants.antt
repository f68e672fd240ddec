use Rattle.std.proofs.Common.{◌≡◌, drop}
use Rattle.step_program.specs.Plan.{held}
use Rattle.held_state.specs.Slots.{numbers}
use Rattle.flat_sim.specs.Signals.{with_registers}
use Rattle.flat_sim.proofs.signals.with_registers.Given as goal

abbrev pub invariant-loop-k : goal.invariant-loop-k
invariant-loop-k l = record {
  width : l.value.width ≡ l.fn.value.width;
  all : with_registers l.signal l.fn.value.width (drop l.k l.parts) (drop l.k (numbers (held l.values) l.given)) l.value.value
      ≡ with_registers l.signal l.fn.value.width l.parts (numbers (held l.values) l.given) l.fn.value.value;
}
