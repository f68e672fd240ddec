use Rattle.std.proofs.Common.{◌≡◌, ◌^◌, ◌<◌, take}
use Rattle.std.specs.List.{sum}
use Rattle.dt_core.proofs.row.total.Given as goal

abbrev pub invariant-loop-width : goal.invariant-loop-width
invariant-loop-width l = record {
  sum_so_far : l.total ≡ sum (take l.width-index l.widths);
  counted : l.total < 2 ^ 64;
}
