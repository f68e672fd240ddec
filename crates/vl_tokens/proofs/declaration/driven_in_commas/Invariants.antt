use Rattle.std.proofs.Common.{drop, map, false}
use Rattle.vl_tree.specs.SyntaxView as view
use Rattle.vl_tree.specs.Depth.{driven_depths}
use Rattle.vl_tokens.specs.Counted.{in_list}
use Rattle.vl_tokens.proofs.Counting.{Counts}
use Rattle.vl_tokens.proofs.declaration.driven_in_commas.Given as goal

abbrev pub invariant-loop-item : goal.invariant-loop-item
invariant-loop-item l = Counts l.count (in_list driven_depths l.comma (map view.driven (drop l.item-index l.all))) (in_list driven_depths false (map view.driven l.all))
