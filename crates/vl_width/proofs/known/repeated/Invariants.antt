use Rattle.std.proofs.Common.{◌≡◌, ◌*◌, ◌-◌, ◌≤◌}
use Rattle.vl_value.specs.Meaning.{repeated}
use Rattle.vl_width.proofs.known.repeated.Given as goal

abbrev pub invariant-loop-done : goal.invariant-loop-done
invariant-loop-done l = record {
  some : 1 ≤ l.done;
  most : l.done ≤ l.count;
  width : l.joined.width ≡ l.done * l.one.width;
  value : l.joined.value ≡ repeated l.done l.one.width l.one.value;
}

abbrev pub decreases-loop-done : goal.decreases-loop-done
decreases-loop-done l = l.count - l.done
