use Rattle.std.proofs.Common.{◌≡◌, ◌++◌, drop, filter, nat_eq}
use Rattle.std.specs.Cmp.Lexicographic.{pointwise}
use Rattle.indexmap.specs.IndexMap.{get}
use Rattle.vl_top.specs.Names.{listed, is_unused}
use Rattle.vl_top.proofs.root.only_root.Given as goal

-- the one so far, and those of what is left
abbrev pub invariant-loop-one : goal.invariant-loop-one
invariant-loop-one l = listed l.root ++ filter (is_unused (get (pointwise nat_eq) l.used)) (drop l.one-index l.modules)
    ≡ filter (is_unused (get (pointwise nat_eq) l.used)) l.modules
