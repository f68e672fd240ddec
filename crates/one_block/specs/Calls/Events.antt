-- What events say and fire, by the lines of their stops. This project's own.
use Rattle.std.specs.Prelude.{◌≡◌, ℕ, false, true, ◌<◌, if◌then◌else◌, List, [], ◌∷◌, ◌++◌, length, slice_index}
use Rattle.std.specs.List.{All}
use Rattle.bit_ops.specs.Operators.{holds}
use Rattle.flat_ir.specs.Fired.{Fired, fired_in}
use Rattle.flat_ir.specs.Fired as plain
use Rattle.flat_ir.specs.FlatRun.{flat_events}
use Rattle.flat_ir.specs.declared.design.Action.{Action}
use Rattle.netlist.specs.Fits.{IsNode, EventFits}
use Rattle.netlist.specs.Run.{said_more}
use Rattle.netlist.specs.declared.design.Effect.{Effect}
use Rattle.netlist.specs.declared.design.Effect.TheVariants as e
use Rattle.netlist.specs.declared.design.Event.{Event}
use Rattle.netlist.specs.declared.design.Shown.{Shown}
use Rattle.netlist.specs.declared.design.Base.TheVariants as b
use Rattle.flat_ir.specs.Format.{format_text}
use Rattle.netlist.specs.declared.node.Node.{Node}
use Rattle.design_names.specs.Stops.{event_stops}
use Rattle.one_block.specs.declared.made.Made.{Made}
use Rattle.one_block.specs.SameDesign.{IsPlainStop}
use Rattle.one_block.specs.Calls.Nodes.{made_at}

-- a value that a message shows in decimal, unsigned, with the fewest digits
abbrev pub shown_as : ℕ → Shown
shown_as node = record { node = node; signed = false; base = b.Decimal; fewest = true }

-- the text of a format that shows nothing, with a line's end
abbrev pub said_line : ℕ → List ℕ → Event
said_line condition format = record { condition = condition; effect = e.Said (format_text format [] ++ 10 ∷ []) }

-- the same of one that shows a node
abbrev pub shown_line : List ℕ → ℕ → List ℕ → List ℕ
shown_line format node xs = format_text format (slice_index xs node ∷ []) ++ 10 ∷ []

-- an event of this condition
abbrev pub event : ℕ → Effect → Event
event condition effect = record { condition = condition; effect = effect }

-- a text that is said, if it isn't empty
abbrev pub texts_of : ℕ → List ℕ → List Event
texts_of condition [] = []
texts_of condition (x ∷ t) = record { condition = condition; effect = e.Said (x ∷ t) } ∷ []

-- what fires by an effect with the text so far
abbrev pub effect_fired : List ℕ → Effect → List Fired
effect_fired text (e.Said more) = []
effect_fired text (e.Showed shown) = []
effect_fired text (e.Stopped place fatal) = record { line = place.line; message = text } ∷ []

-- the text behind an event
abbrev pub text_behind : List Node → List ℕ → List ℕ → Event → List ℕ
text_behind nodes xs text x = if holds (slice_index xs x.condition) then said_more nodes xs text x.effect else text

-- what fires of these events, and the text behind them
abbrev pub line_fired : List Node → List ℕ → List ℕ → List Event → List Fired
line_fired nodes xs text [] = []
line_fired nodes xs text (x ∷ more) =
    (if holds (slice_index xs x.condition) then effect_fired text x.effect else [])
    ++ line_fired nodes xs (text_behind nodes xs text x) more

abbrev pub text_left : List Node → List ℕ → List ℕ → List Event → List ℕ
text_left nodes xs text [] = text
text_left nodes xs text (x ∷ more) = text_left nodes xs (text_behind nodes xs text x) more

-- the text behind the old design's events
abbrev pub text_after : List ℕ → List plain.Event → List ℕ
text_after text [] = text
text_after text (plain.said more ∷ es) = text_after (text ++ more) es
text_after text (plain.stopped line ∷ es) = text_after [] es

-- where the condition holds these events add a text, and else they do nothing; they fire nothing
pub record Says (nodes : List Node) (xs : List ℕ) (condition : ℕ) (t : List ℕ) (es : List Event) : Type 0 where
  pub fired : (text : List ℕ) → line_fired nodes xs text es ≡ []
  pub left : (text : List ℕ)
      → text_left nodes xs text es ≡ (if holds (slice_index xs condition) then text ++ t else text)

-- the events do what these actions of the old design do, where vs are the values of its nodes
pub record Tells (nodes : List Node) (xs vs : List ℕ) (es : List Event) (actions : List Action) : Type 0 where
  pub fired : (text : List ℕ) → line_fired nodes xs text es ≡ fired_in text (flat_events vs actions)
  pub left : (text : List ℕ) → text_left nodes xs text es ≡ text_after text (flat_events vs actions)

-- the nodes that were made have the values of the old design's
abbrev pub Agree : List Made → List ℕ → List ℕ → Type 0
Agree made xs vs = (k : ℕ) → k < length made → slice_index xs (made_at made k).node ≡ slice_index vs k

-- they are there
abbrev pub AreThere : List Node → List Made → Type 0
AreThere nodes made = (k : ℕ) → k < length made → IsNode nodes (made_at made k).node

-- events were added that say a text, which may show the values of nodes; none of them stops
pub record AddsText (condition node : ℕ) (t : List ℕ → List ℕ) (before behind : List Event) : Type 0 where
  pub more : List Event
  pub whole : behind ≡ before ++ more
  pub fit : (nodes : List Node) → IsNode nodes condition → IsNode nodes node → All (EventFits nodes) more
  pub stops : event_stops 0 more ≡ []
  pub says : (nodes : List Node) (xs : List ℕ) → Says nodes xs condition (t xs) more

-- events were added that do what these actions do; their stops are plain ones of the top
pub record AddsEvents (made : List Made) (before behind : List Event) (actions : List Action) : Type 0 where
  pub more : List Event
  pub whole : behind ≡ before ++ more
  pub fit : (nodes : List Node) → AreThere nodes made → All (EventFits nodes) more
  pub stops : All IsPlainStop (event_stops 0 more)
  pub tells : (nodes : List Node) (xs vs : List ℕ) → Agree made xs vs → Tells nodes xs vs more actions
