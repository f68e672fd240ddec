use Rattle.std.proofs.Common.{◌≡◌, ◌++◌, drop}
use Rattle.vl_design.specs.Parameters.{open_in}
use Rattle.vl_views.specs.Blocks.{items_of}
use Rattle.vl_parameters.specs.Open.{texts_of}
use Rattle.vl_parameters.proofs.open.+open.Given as goal

-- the names so far, and those of what is left
abbrev pub invariant-open_in-loop-item : goal.invariant-open_in-loop-item
invariant-open_in-loop-item l = texts_of l.names.items ++ open_in (items_of (drop l.item-index l.items))
    ≡ texts_of l.fn.names.items ++ open_in (items_of l.items)
