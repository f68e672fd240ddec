use Rattle.std.proofs.Common.{◌≡◌, ◌++◌, drop, map}
use Rattle.vl_views.specs.Blocks.{items_of}
use Rattle.vl_loops.specs.Loops.{plain_loops, loops_in}
use Rattle.vl_loops.proofs.item.+items.Given as goal

-- the loops so far, and those of what is left
abbrev pub invariant-gather-loop-item : goal.invariant-gather-loop-item
invariant-gather-loop-item l =
    map plain_loops l.loops.items ++ loops_in (items_of (drop l.item-index l.items)) ≡ map plain_loops l.fn.loops.items ++ loops_in (items_of l.items)
