use Rattle.std.proofs.Common.{◌≤◌, length}
use Rattle.vl_pre.specs.Bytes.{most_clean}
use Rattle.vl_pre.specs.Pieces.{kept}
use Rattle.vl_pre.proofs.WriteLaws.{Leads}
use Rattle.vl_pre.proofs.clean.keep.Given as goal

abbrev pub invariant-loop-left : goal.invariant-loop-left
invariant-loop-left l = record {
  leads : Leads l.fn.out (kept l.fn.n l.fn.at) l.out (kept l.left l.at);
  fits : length l.out ≤ most_clean;
}

abbrev pub decreases-loop-left : goal.decreases-loop-left
decreases-loop-left l = l.left
