use Rattle.std.proofs.Common.{◌≡◌, map, take}
use Rattle.std.specs.List.{sum}
use Rattle.dt_core.specs.BitVectors.{plain, widths_of}
use Rattle.dt_core.specs.Packing.{number, unpacked}
use Rattle.dt_core.proofs.row.pack.Given as goal

abbrev pub invariant-loop-value : goal.invariant-loop-value
invariant-loop-value l = record {
  place : l.from ≡ sum (take l.value-index (widths_of l.values));
  packed : take l.value-index (unpacked (widths_of l.values) (number l.bytes)) ≡ map plain (take l.value-index l.values);
}
