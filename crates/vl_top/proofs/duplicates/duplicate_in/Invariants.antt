use Rattle.std.proofs.Common.{◌≡◌, [], map, drop, nat_eq, is_some}
use Rattle.std.specs.Cmp.Lexicographic.{pointwise}
use Rattle.std.specs.Option.{option_map}
use Rattle.indexmap.specs.IndexMap.{get}
use Rattle.vl_tree.specs.Syntax.{Source}
use Rattle.vl_tree.specs.SyntaxView as view
use Rattle.vl_value.specs.Order.{lesser, least}
use Rattle.vl_value.specs.Paths.{Text}
use Rattle.vl_found.specs.View.{found}
use Rattle.vl_design.specs.Walk.{has_module, duplicate_modules}
use Rattle.vl_top.proofs.duplicates.duplicate_in.Given as goal

-- the names before are noted, and the least fault so far, with those of what is left, is that of all
abbrev pub invariant-loop-one : goal.invariant-loop-one
invariant-loop-one l = (before : Source)
    × ((x : Text) → is_some (get (pointwise nat_eq) l.names x) ≡ has_module before x)
    × (lesser (option_map found l.fault) (least (duplicate_modules before (map view.module_tree (drop l.one-index l.modules))))
    ≡ least (duplicate_modules [] (map view.module_tree l.modules)))
