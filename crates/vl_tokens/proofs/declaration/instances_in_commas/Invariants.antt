use Rattle.std.proofs.Common.{drop, map, false}
use Rattle.vl_tree.specs.SyntaxView as view
use Rattle.vl_tree.specs.Depth.{instance_depths}
use Rattle.vl_tokens.specs.Counted.{in_list}
use Rattle.vl_tokens.proofs.Counting.{Counts}
use Rattle.vl_tokens.proofs.declaration.instances_in_commas.Given as goal

abbrev pub invariant-loop-item : goal.invariant-loop-item
invariant-loop-item l = Counts l.count (in_list instance_depths l.comma (map view.instance (drop l.item-index l.all))) (in_list instance_depths false (map view.instance l.all))
