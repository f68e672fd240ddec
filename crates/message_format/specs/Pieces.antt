-- The pieces of a format, and the events of a message. This project's own.
use Rattle.std.specs.Prelude.{◌≡◌, ◌≢◌, ℕ, Bool, true, false, if◌then◌else◌, List, [], ◌∷◌, ◌++◌, map, slice_index}
use Rattle.bit_ops.specs.Operators.{holds}
use Rattle.netlist.specs.Run.{block_fired}
use Rattle.netlist.specs.Values.{width_at}
use Rattle.netlist.specs.declared.design.Event.{Event}
use Rattle.netlist.specs.declared.node.Node.{Node}
use Rattle.message_format.specs.declared.element.Element.{Element}
use Rattle.message_format.specs.declared.element.Element.TheVariants as e
use Rattle.message_format.specs.declared.piece.Piece.{Piece}
use Rattle.message_format.specs.declared.piece.Piece.TheVariants as p
use Rattle.message_format.specs.declared.events.Argument.{Argument}
use Rattle.message_format.specs.Formatted.{Value}

-- ---- pieces

abbrev pub bytes_of : List ℕ → List Element
bytes_of = map (λ c. e.Byte c)

-- the elements of these pieces
abbrev pub elements_of : List Piece → List Element
elements_of [] = []
elements_of (p.Said t ∷ ps) = bytes_of t ++ elements_of ps
elements_of (p.Path ∷ ps) = e.Path ∷ elements_of ps
elements_of (p.Value i ∷ ps) = e.Value i ∷ elements_of ps

-- texts are whole: none is empty, and none stands right after another, nor the first one after a text before it
abbrev pub AreWhole : Bool → List Piece → Type 0
AreWhole after [] = Unit {0}
AreWhole after (p.Said t ∷ ps) = (after ≡ false) × (t ≢ []) × AreWhole true ps
AreWhole after (p.Path ∷ ps) = AreWhole false ps
AreWhole after (p.Value i ∷ ps) = AreWhole false ps

-- ---- events

-- what the arguments show where these are the values of the nodes
abbrev pub values_of : List Node → List ℕ → List Argument → List Value
values_of nodes xs = map (λ a. record {
  width = width_at nodes a.node;
  signed = a.signed;
  value = slice_index xs a.node;
})

-- where the condition isn't 0 these events add a text to what their block said before them, and else they do nothing:
-- they fire nothing and number no stop
abbrev pub Says : List Node → List ℕ → ℕ → List ℕ → List Event → Type 0
Says nodes xs condition t es = (n : ℕ) (text : List ℕ) (more : List Event)
    → block_fired nodes xs n text (es ++ more)
    ≡ block_fired nodes xs n (if holds (slice_index xs condition) then text ++ t else text) more
