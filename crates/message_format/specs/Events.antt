-- The events of pieces. This project's own.
use Rattle.std.specs.Prelude.{ℕ, List, [], ◌∷◌, Option, Some, None, option_map}
use Rattle.netlist.specs.declared.design.Effect.{Effect}
use Rattle.netlist.specs.declared.design.Effect.TheVariants as effect
use Rattle.netlist.specs.declared.design.Event.{Event}
use Rattle.message_format.specs.declared.element.Item.{Item}
use Rattle.message_format.specs.declared.piece.Piece.{Piece}
use Rattle.message_format.specs.declared.piece.Piece.TheVariants as p
use Rattle.message_format.specs.declared.events.Argument.{Argument}

-- an item shows an argument
abbrev pub showed : Item → Argument → Effect
showed i a = effect.Showed (record { node = a.node; signed = a.signed; base = i.base; fewest = i.fewest })

-- an event, and those after it
abbrev pub with_event : ℕ → Effect → Option (List Event) → Option (List Event)
with_event condition x more = option_map (λ es. record { condition = condition; effect = x } ∷ es) more

-- an event for each piece; none where there are too few arguments or too many
abbrev pub piece_events : ℕ → List ℕ → List Piece → List Argument → Option (List Event)
piece_events condition path [] [] = Some []
piece_events condition path [] (a ∷ rest) = None
piece_events condition path (p.Said t ∷ ps) given =
    with_event condition (effect.Said t) (piece_events condition path ps given)
piece_events condition path (p.Path ∷ ps) given =
    with_event condition (effect.Said path) (piece_events condition path ps given)
piece_events condition path (p.Value i ∷ ps) [] = None
piece_events condition path (p.Value i ∷ ps) (a ∷ rest) =
    with_event condition (showed i a) (piece_events condition path ps rest)
