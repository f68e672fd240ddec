-- The conditions of stops, in slots. This project's own.
use Rattle.std.specs.Prelude.{ℕ, ◌&&◌, ◌||◌, Bool, true, false, if◌then◌else◌, List, [], ◌∷◌, ◌++◌, slice_index}
use Rattle.bit_ops.specs.Operators as ops
use Rattle.netlist.specs.Plain.{PlainBlock}
use Rattle.netlist.specs.Run.{is_stop}
use Rattle.netlist.specs.declared.design.Event.{Event}
use Rattle.step_program.specs.Values.{Slots, slot_value}
use Rattle.step_program.specs.declared.step.Slot.{Slot}
use Rattle.net_compile.specs.Cycle.{slot_at}

-- the slots of the conditions of the stops among the events, and of those of all blocks
abbrev pub block_stops : List Slot → List Event → List Slot
block_stops nodes [] = []
block_stops nodes (x ∷ more) =
    (if is_stop x.effect then slot_at nodes x.condition ∷ [] else []) ++ block_stops nodes more

abbrev pub stop_slots : List Slot → List PlainBlock → List Slot
stop_slots nodes [] = []
stop_slots nodes (b ∷ bs) = block_stops nodes b.events ++ stop_slots nodes bs

-- the number in one of these slots isn't 0
abbrev pub some_holds : Slots → List Slot → Bool
some_holds x [] = false
some_holds x (s ∷ ss) = ops.holds (slot_value x s) || some_holds x ss

-- some stop among the events is done
abbrev pub stops_in : List ℕ → List Event → Bool
stops_in xs [] = false
stops_in xs (x ∷ more) = (ops.holds (slice_index xs x.condition) && is_stop x.effect) || stops_in xs more

-- a list has an element
abbrev pub has_some : {X : Type 0} → List X → Bool
has_some [] = false
has_some (x ∷ xs) = true

abbrev pub some_stops : List ℕ → List PlainBlock → Bool
some_stops xs [] = false
some_stops xs (b ∷ bs) = stops_in xs b.events || some_stops xs bs
