use Rattle.std.proofs.Common.{drop, map, false}
use Rattle.vl_tree.specs.SyntaxView as view
use Rattle.vl_tree.specs.Depth.{name_depth}
use Rattle.vl_tokens.specs.Counted.{in_list}
use Rattle.vl_tokens.proofs.Counting.{Counts}
use Rattle.vl_tokens.proofs.declaration.names_in_commas.Given as goal

abbrev pub invariant-loop-item : goal.invariant-loop-item
invariant-loop-item l = Counts l.count (in_list name_depth l.comma (map view.name (drop l.item-index l.all))) (in_list name_depth false (map view.name l.all))
