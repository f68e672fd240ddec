use Rattle.std.proofs.Common.{◌≡◌, ◌++◌, drop}
use Rattle.vl_views.specs.Blocks.{items_of}
use Rattle.vl_clocks.specs.Names.{texts, clock_names_in}
use Rattle.vl_clocks.proofs.edge.+items.Given as goal

-- the names so far, and those of what is left
abbrev pub invariant-gather-loop-item : goal.invariant-gather-loop-item
invariant-gather-loop-item l =
    texts l.names.items ++ clock_names_in (items_of (drop l.item-index l.items)) ≡ texts l.fn.names.items ++ clock_names_in (items_of l.items)
