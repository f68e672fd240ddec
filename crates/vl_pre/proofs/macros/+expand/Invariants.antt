use Rattle.std.proofs.Common.{◌≤◌, ◌+◌, ◌*◌, length}
use Rattle.vl_pre.specs.Bytes.{most_clean}
use Rattle.vl_pre.specs.CleanText.{use_of, whole_body}
use Rattle.vl_pre.specs.Calls.Reading.{macros_of, KnowsBlanks}
use Rattle.vl_pre.proofs.StepLaws.{ReadsBody}
use Rattle.vl_pre.proofs.macros.+expand.Given as goal

abbrev pub decreases-expand : goal.decreases-expand
decreases-expand l = 4 * l.depth

abbrev pub decreases-write_body : goal.decreases-write_body
decreases-write_body l = 4 * l.depth + 3

abbrev pub decreases-write_next : goal.decreases-write_next
decreases-write_next l = 4 * l.depth + 2

abbrev pub decreases-write_use : goal.decreases-write_use
decreases-write_use l = 4 * l.depth + 1

abbrev pub invariant-write_body-loop-at : goal.invariant-write_body-loop-at
invariant-write_body-loop-at l = record {
  reads : ReadsBody l.fn.out (whole_body (use_of l.depth (macros_of l.macros) l.line) l.line l.fn.body) l.out (use_of l.depth (macros_of l.macros) l.line) l.line l.at;
  fits : length l.out ≤ most_clean;
  known : KnowsBlanks (macros_of l.macros) l.line l.blanks;
}

abbrev pub decreases-write_body-loop-at : goal.decreases-write_body-loop-at
decreases-write_body-loop-at l = length l.at
