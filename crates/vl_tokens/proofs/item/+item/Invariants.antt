use Rattle.std.proofs.Common.{drop, false}
use Rattle.vl_design.specs.Generate.{items_tokens}
use Rattle.vl_views.specs.Blocks.{items_of, branches_of}
use Rattle.vl_tokens.specs.Items.{branches_listed}
use Rattle.vl_tokens.proofs.Counting.{Counts}
use Rattle.vl_tokens.proofs.item.+item.Given as goal

abbrev pub invariant-items_tokens-loop-i : goal.invariant-items_tokens-loop-i
invariant-items_tokens-loop-i l = Counts l.count (items_tokens (items_of (drop l.i-index l.all))) (items_tokens (items_of l.all))

abbrev pub invariant-item-loop-branch : goal.invariant-item-loop-branch
invariant-item-loop-branch l = Counts l.first (branches_listed l.later (branches_of (drop l.branch-index l.all))) (branches_listed false (branches_of l.all))
