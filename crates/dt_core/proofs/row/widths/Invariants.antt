use Rattle.std.proofs.Common.{◌≡◌, take}
use Rattle.dt_core.specs.BitVectors.{widths_of}
use Rattle.dt_core.proofs.row.widths.Given as goal

abbrev pub invariant-loop-value : goal.invariant-loop-value
invariant-loop-value l = l.widths.items ≡ widths_of (take l.value-index l.values)
