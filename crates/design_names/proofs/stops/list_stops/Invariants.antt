use Rattle.std.proofs.Common.{◌≡◌, ◌++◌, drop}
use Rattle.design_names.specs.Stops.{block_stops}
use Rattle.design_names.proofs.stops.list_stops.Given as goal

-- what was pushed, and the assertions of what is left
abbrev pub invariant-loop-block : goal.invariant-loop-block
invariant-loop-block l = l.stops.items ++ block_stops (drop l.block-index l.blocks) ≡ block_stops l.blocks
