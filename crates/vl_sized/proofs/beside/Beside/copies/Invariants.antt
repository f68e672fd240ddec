use Rattle.std.proofs.Common.{◌-◌, ◌≡◌, ◌≤◌}
use Rattle.dt_core.specs.declared.limits.TheConstants.{MAX_WIDTH}
use Rattle.bit_ops.specs.Operators as ops
use Rattle.vl_value.specs.Meaning.{repeated}
use Rattle.vl_sized.proofs.beside.Beside.copies.Given as goal

abbrev pub invariant-loop-done : goal.invariant-loop-done
invariant-loop-done l = record {
  most : l.done ≤ l.count;
  value : l.value ≡ ops.low MAX_WIDTH (repeated l.done l.self.width (ops.low l.self.width l.self.value));
}

abbrev pub decreases-loop-done : goal.decreases-loop-done
decreases-loop-done l = l.count - l.done
