use Rattle.std.proofs.Common.{◌≡◌, ◌+◌, drop}
use Rattle.vl_design.specs.Generate.{constructs}
use Rattle.vl_views.specs.Blocks.{items_of}
use Rattle.vl_generate.proofs.construct.+number.Given as goal

-- the number so far, and the constructs that are left
abbrev pub invariant-number_behind_all-loop-item : goal.invariant-number_behind_all-loop-item
invariant-number_behind_all-loop-item l = l.number + constructs (items_of (drop l.item-index l.items)) ≡ l.n + constructs (items_of l.items)
