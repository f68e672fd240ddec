use Rattle.std.proofs.Common.{◌≡◌, ℕ, List, [], ◌++◌, map, drop, nat_eq, is_some}
use Rattle.std.specs.Cmp.Lexicographic.{pointwise}
use Rattle.indexmap.specs.IndexMap.{get}
use Rattle.vl_tree.specs.Syntax.{Source}
use Rattle.vl_tree.specs.SyntaxView as view
use Rattle.vl_design.specs.Walk.{has_module, first_of_name}
use Rattle.vl_top.specs.Names.{tree_of}
use Rattle.vl_top.proofs.first.first_modules.Given as goal

-- the names before are noted, and the first of them, with those of what is left, are all
abbrev pub invariant-loop-one : goal.invariant-loop-one
invariant-loop-one l = (before : Source)
    × ((x : List ℕ) → is_some (get (pointwise nat_eq) l.names x) ≡ has_module before x)
    × (map tree_of l.first.items ++ first_of_name before (map view.module_tree (drop l.one-index l.modules)) ≡ first_of_name [] (map view.module_tree l.modules))
