use Rattle.std.proofs.Common.{drop, false}
use Rattle.vl_tokens.specs.Statements.{targets_listed, targets_of}
use Rattle.vl_tokens.proofs.Counting.{Counts}
use Rattle.vl_tokens.proofs.statement.+target.Given as goal

abbrev pub invariant-targets-loop-written : goal.invariant-targets-loop-written
invariant-targets-loop-written l = Counts l.count (targets_listed l.comma (targets_of (drop l.written-index l.all))) (targets_listed false (targets_of l.all))
