use Rattle.std.proofs.Common.{◌≡◌, drop, ◌++◌}
use Rattle.held_state.specs.Moves.{next_slots}
use Rattle.held_state.proofs.commits.next_slots.Given as goal

-- the slots so far, and those that are left, are all
abbrev pub invariant-loop-part : goal.invariant-loop-part
invariant-loop-part l =
    l.slots.items ++ next_slots (drop l.part-index l.parts) l.nodes ≡ next_slots l.parts l.nodes
