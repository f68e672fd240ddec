use Rattle.std.proofs.Common.{take}
use Rattle.net_compile.specs.Cycle.{HasSlots}
use Rattle.net_compile.specs.Pieces.{front_of}
use Rattle.net_compile.proofs.layout.Given.of.Given as goal

-- a slot for each width so far
abbrev pub invariant-loop-width : goal.invariant-loop-width
invariant-loop-width l = HasSlots (take l.width-index l.widths) (front_of l.given)
