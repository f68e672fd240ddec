use Rattle.std.proofs.Common.{◌-◌, ◌≡◌, ◌/◌, ◌%◌, ◌^◌, ◌≤◌}
use Rattle.dt_core.specs.Packing.{number}
use Rattle.dt_core.proofs.packing.read.Given as goal

abbrev pub invariant-loop-done : goal.invariant-loop-done
invariant-loop-done l = record {
  short : l.done ≤ l.width;
  value : l.value ≡ number l.bytes / 2 ^ l.from % 2 ^ l.done;
}

abbrev pub decreases-loop-done : goal.decreases-loop-done
decreases-loop-done l = l.width - l.done
