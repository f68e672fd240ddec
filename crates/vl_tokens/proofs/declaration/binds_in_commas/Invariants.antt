use Rattle.std.proofs.Common.{drop, map, false}
use Rattle.vl_tree.specs.SyntaxView as view
use Rattle.vl_tree.specs.Depth.{named_bind_depths}
use Rattle.vl_tokens.specs.Counted.{in_list}
use Rattle.vl_tokens.proofs.Counting.{Counts}
use Rattle.vl_tokens.proofs.declaration.binds_in_commas.Given as goal

abbrev pub invariant-loop-item : goal.invariant-loop-item
invariant-loop-item l = Counts l.count (in_list named_bind_depths l.comma (map view.named_bind (drop l.item-index l.all))) (in_list named_bind_depths false (map view.named_bind l.all))
