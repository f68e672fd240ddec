use Rattle.std.proofs.Common.{◌≡◌, drop}
use Rattle.vl_sized.specs.Plain.{widest_of, all_signed}
use Rattle.vl_sized.proofs.build.widest.Given as goal

abbrev pub invariant-loop-case : goal.invariant-loop-case
invariant-loop-case l = record {
  width : widest_of (drop l.case-index l.cases) l.size.width ≡ widest_of l.cases l.fn.last.width;
  signed : all_signed (drop l.case-index l.cases) l.size.signed ≡ all_signed l.cases l.fn.last.signed;
}
