use Rattle.std.proofs.Common.{◌-◌, ◌≡◌, ◌%◌, ◌^◌, ◌<◌, ◌≤◌, ℕ, get_or}
use Rattle.dt_core.specs.Packing.{number, put}
use Rattle.dt_core.proofs.packing.write.Given as goal

abbrev pub invariant-loop-done : goal.invariant-loop-done
invariant-loop-done l = record {
  short : l.done ≤ l.width;
  fits : (k : ℕ) → get_or l.bytes k 0 < 256;
  written : number l.bytes ≡ put (number l.initial.bytes) l.from l.done (l.value.value % 2 ^ l.done);
}

abbrev pub decreases-loop-done : goal.decreases-loop-done
decreases-loop-done l = l.width - l.done
