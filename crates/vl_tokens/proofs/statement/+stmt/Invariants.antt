use Rattle.std.proofs.Common.{drop, false}
use Rattle.vl_tokens.specs.Statements.{stmts_tokens, stmts_of, branches_listed, branches_of, arms_tokens, arms_of}
use Rattle.vl_tokens.proofs.Counting.{Counts}
use Rattle.vl_tokens.proofs.statement.+stmt.Given as goal

abbrev pub invariant-stmts-loop-s : goal.invariant-stmts-loop-s
invariant-stmts-loop-s l = Counts l.count (stmts_tokens (stmts_of (drop l.s-index l.all))) (stmts_tokens (stmts_of l.all))

abbrev pub invariant-branches-loop-branch : goal.invariant-branches-loop-branch
invariant-branches-loop-branch l = Counts l.count (branches_listed l.later (branches_of (drop l.branch-index l.all))) (branches_listed false (branches_of l.all))

abbrev pub invariant-arms-loop-arm : goal.invariant-arms-loop-arm
invariant-arms-loop-arm l = Counts l.count (arms_tokens (arms_of (drop l.arm-index l.all))) (arms_tokens (arms_of l.all))
