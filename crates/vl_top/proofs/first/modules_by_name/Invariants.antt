use Rattle.std.proofs.Common.{map, drop, nat_eq}
use Rattle.std.specs.Cmp.Lexicographic.{pointwise}
use Rattle.indexmap.specs.IndexMap.{get}
use Rattle.vl_tree.specs.SyntaxView as view
use Rattle.vl_top.specs.Names.{FindsModules}
use Rattle.vl_top.proofs.first.modules_by_name.Given as goal

-- the first module of each name from here on
abbrev pub invariant-loop-i : goal.invariant-loop-i
invariant-loop-i l = FindsModules (get (pointwise nat_eq) l.by_name) (map view.module_tree (drop l.i l.modules))
