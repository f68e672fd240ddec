use Rattle.std.proofs.Common.{drop, map, length}
use Rattle.vl_tree.specs.SyntaxView as view
use Rattle.vl_tree.specs.Depth.{each_depth, function_declaration_depths}
use Rattle.vl_tokens.proofs.Counting.{Counts}
use Rattle.vl_tokens.proofs.function.declarations.Given as goal

abbrev pub invariant-loop-item : goal.invariant-loop-item
invariant-loop-item l = Counts l.count (length (each_depth function_declaration_depths 0 (map view.function_declaration (drop l.item-index l.all))))
    (length (each_depth function_declaration_depths 0 (map view.function_declaration l.all)))
