use Rattle.std.proofs.Common.{◌≡◌, ℕ, ◌||◌, List, map, drop, nat_eq, is_some}
use Rattle.std.specs.Cmp.Lexicographic.{pointwise}
use Rattle.indexmap.specs.IndexMap.{get}
use Rattle.vl_top.specs.Names.{is_used_in, tree_of}
use Rattle.vl_top.proofs.used.used_names.Given as goal

-- the names that were gathered, and those of what is left
abbrev pub invariant-loop-one : goal.invariant-loop-one
invariant-loop-one l = (x : List ℕ)
    → (is_some (get (pointwise nat_eq) l.used x) || is_used_in (map tree_of (drop l.one-index l.modules)) x) ≡ is_used_in (map tree_of l.modules) x
