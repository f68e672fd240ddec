-- The assertions of a numbered design by number, with the scope of their block and their place. This project's own.
use Rattle.std.specs.Prelude.{ℕ, List, [], ◌∷◌, ◌++◌}
use Rattle.netlist.specs.Plain.{PlainBlock}
use Rattle.netlist.specs.Design.{Flat}
use Rattle.netlist.specs.declared.design.Effect.{Effect}
use Rattle.netlist.specs.declared.design.Effect.TheVariants as e
use Rattle.netlist.specs.declared.design.Event.{Event}
use Rattle.design_names.specs.declared.stops.Stop.{Stop}

-- the assertion that an effect of a block in this scope is, if it is one
abbrev pub effect_stop : ℕ → Effect → List Stop
effect_stop scope (e.Said text) = []
effect_stop scope (e.Showed shown) = []
effect_stop scope (e.Stopped place fatal) = record { scope = scope; place = place; fatal = fatal } ∷ []

-- those of these events, in order
abbrev pub event_stops : ℕ → List Event → List Stop
event_stops scope [] = []
event_stops scope (x ∷ more) = effect_stop scope x.effect ++ event_stops scope more

-- those of these blocks, in order
abbrev pub block_stops : List PlainBlock → List Stop
block_stops [] = []
block_stops (b ∷ bs) = event_stops b.scope b.events ++ block_stops bs

-- the assertions of all blocks: the k-th is the one that `Fired` gives the number k
abbrev pub flat_stops : Flat → List Stop
flat_stops f = block_stops f.blocks
