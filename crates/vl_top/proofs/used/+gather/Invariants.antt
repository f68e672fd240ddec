use Rattle.std.proofs.Common.{◌≡◌, ℕ, ◌||◌, List, drop, nat_eq, is_some}
use Rattle.std.specs.Cmp.Lexicographic.{pointwise}
use Rattle.indexmap.specs.IndexMap.{get}
use Rattle.vl_tree.specs.SyntaxView as view
use Rattle.vl_design.specs.Walk.{instantiates, some_instantiates, branches_instantiate, else_instantiates}
use Rattle.vl_views.specs.Blocks.{items_of, branches_of, else_of}
use Rattle.vl_top.proofs.used.+gather.Given as goal

-- the names that were gathered, and those of what is left
abbrev pub invariant-gather_items-loop-item : goal.invariant-gather_items-loop-item
invariant-gather_items-loop-item l = (x : List ℕ)
    → (is_some (get (pointwise nat_eq) l.used x) || some_instantiates x (items_of (drop l.item-index l.items)))
    ≡ (is_some (get (pointwise nat_eq) l.fn.used x) || some_instantiates x (items_of l.items))

-- in an `if`, also the last branch
abbrev pub invariant-gather-loop-branch : goal.invariant-gather-loop-branch
invariant-gather-loop-branch l = (x : List ℕ)
    → (is_some (get (pointwise nat_eq) l.used x) || (branches_instantiate x (branches_of (drop l.branch-index l.all)) || else_instantiates x (else_of l.last)))
    ≡ (is_some (get (pointwise nat_eq) l.fn.used x) || instantiates x (view.item l.fn.item))
