use Rattle.std.proofs.Common.{◌≤◌, length}
use Rattle.vl_pre.specs.Bytes.{most_clean}
use Rattle.vl_pre.specs.CleanText.{reading_from}
use Rattle.vl_pre.specs.Calls.Reading.{context_of}
use Rattle.vl_pre.proofs.StepLaws.{Reads}
use Rattle.vl_pre.proofs.reading.read_all.Given as goal

abbrev pub invariant-loop-alloc : goal.invariant-loop-alloc
invariant-loop-alloc l = record {
  reads : Reads l.fn.out (reading_from (length l.fn.at) (context_of l.fn.context) l.fn.at) l.out (context_of l.context) l.at;
  fits : length l.out ≤ most_clean;
}

abbrev pub decreases-loop-alloc : goal.decreases-loop-alloc
decreases-loop-alloc l = length l.at
