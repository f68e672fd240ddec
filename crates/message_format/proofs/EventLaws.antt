-- The events of a message say its text.
use Rattle.std.proofs.Common.{◌≡◌, ℕ, Bool, true, false, if◌then◌else◌, List, [], ◌∷◌, ◌++◌, refl, sym, ap, ◌∙◌, subst, append_assoc, append-nil, Option, Some, None}
use Rattle.std.specs.Prelude.{slice_index, option_and_then}
use Rattle.bit_ops.specs.Operators.{holds}
use Rattle.netlist.specs.Run.{block_fired, Fired}
use Rattle.netlist.specs.Values.{width_at}
use Rattle.netlist.specs.Message.{value_text}
use Rattle.netlist.specs.declared.design.Effect.{Effect}
use Rattle.netlist.specs.declared.design.Effect.TheVariants as effect
use Rattle.netlist.specs.declared.design.Event.{Event}
use Rattle.netlist.specs.declared.node.Node.{Node}
use Rattle.message_format.specs.declared.element.Element.{Element}
use Rattle.message_format.specs.declared.piece.Piece.{Piece}
use Rattle.message_format.specs.declared.piece.Piece.TheVariants as p
use Rattle.message_format.specs.declared.events.Argument.{Argument}
use Rattle.message_format.specs.Formatted.{Value, before, filled, elements, formatted}
use Rattle.message_format.specs.Pieces.{bytes_of, elements_of, values_of, Says}
use Rattle.message_format.specs.Events.{showed, with_event, piece_events}

-- ---- texts before others

nothing_before : (found : Option (List ℕ)) → found ≡ before [] found
nothing_before None = refl
nothing_before (Some u) = refl

byte_before : (c : ℕ) (t : List ℕ) (found : Option (List ℕ)) → before (c ∷ []) (before t found) ≡ before (c ∷ t) found
byte_before c t None = refl
byte_before c t (Some u) = refl

filled_bytes : (path t : List ℕ) (xs : List Element) (vs : List Value)
    → filled path (bytes_of t ++ xs) vs ≡ before t (filled path xs vs)
filled_bytes path [] xs vs = nothing_before (filled path xs vs)
filled_bytes path (c ∷ t) xs vs =
    ap (before (c ∷ [])) (filled_bytes path t xs vs) ∙ byte_before c t (filled path xs vs)

-- ---- an event that says a text

-- what fires from an event on is what fires after it, with its text added where the condition holds
abbrev Adds : List Node → List ℕ → ℕ → Effect → List ℕ → Type 0
Adds nodes xs c x t = (n : ℕ) (text : List ℕ) (more : List Event)
    → block_fired nodes xs n text (record { condition = c; effect = x } ∷ more)
    ≡ block_fired nodes xs n (if holds (slice_index xs c) then text ++ t else text) more

fires_nothing : (done : Bool) (fired : List Fired) → (if done then [] else []) ++ fired ≡ fired
fires_nothing true fired = refl
fires_nothing false fired = refl

said_adds : (nodes : List Node) (xs : List ℕ) (c : ℕ) (t : List ℕ) → Adds nodes xs c (effect.Said t) t
said_adds nodes xs c t n text more = fires_nothing (holds (slice_index xs c))
    (block_fired nodes xs n (if holds (slice_index xs c) then text ++ t else text) more)

twice : (done : Bool) (text t u : List ℕ)
    → (if done then (if done then text ++ t else text) ++ u else if done then text ++ t else text)
    ≡ (if done then text ++ (t ++ u) else text)
twice true text t u = append_assoc text t u
twice false text t u = refl

says_more : (nodes : List Node) (xs : List ℕ) (c : ℕ) (x : Effect) (t u : List ℕ) (es : List Event)
    → Adds nodes xs c x t → Says nodes xs c u es
    → Says nodes xs c (t ++ u) (record { condition = c; effect = x } ∷ es)
says_more nodes xs c x t u es adds says n text more = adds n text (es ++ more)
    ∙ says n (if holds (slice_index xs c) then text ++ t else text) more
    ∙ ap (λ y. block_fired nodes xs n y more) (twice (holds (slice_index xs c)) text t u)

nothing_said : (done : Bool) (text : List ℕ) → text ≡ (if done then text ++ [] else text)
nothing_said true text = sym (append-nil text)
nothing_said false text = refl

-- ---- the events of pieces

-- there is a text, and the events say it
abbrev SaysText : List Node → List ℕ → ℕ → Option (List ℕ) → List Event → Type 0
SaysText nodes xs c found es = (text : List ℕ) × (found ≡ Some text) × Says nodes xs c text es

none_say : (nodes : List Node) (xs : List ℕ) (c : ℕ) (es : List Event) → Some [] ≡ Some es
    → SaysText nodes xs c (Some []) es
none_say nodes xs c [] e = (
  [],
  refl,
  λ n text more. ap (λ y. block_fired nodes xs n y more)
      (nothing_said (holds (slice_index xs c)) text),
)
none_say nodes xs c (x ∷ es) e = absurd cc

event_says : (nodes : List Node) (xs : List ℕ) (c : ℕ) (x : Effect) (t : List ℕ) (rest : Option (List Event))
    (found : Option (List ℕ)) (es : List Event) → with_event c x rest ≡ Some es → Adds nodes xs c x t
    → ((fs : List Event) → rest ≡ Some fs → SaysText nodes xs c found fs) → SaysText nodes xs c (before t found) es
event_says nodes xs c x t None found es e adds h = absurd cc
event_says nodes xs c x t (Some fs) found es e adds h = let says : SaysText nodes xs c found fs = h fs refl in
    let same : record { condition = c; effect = x } ∷ fs ≡ es = cc in (
      t ++ says.0,
      ap (before t) says.1,
      subst (Says nodes xs c (t ++ says.0)) same (says_more nodes xs c x t says.0 fs adds says.2),
    )

pub events_say : (nodes : List Node) (xs : List ℕ) (c : ℕ) (path : List ℕ) (ps : List Piece) (given : List Argument)
    (es : List Event) → piece_events c path ps given ≡ Some es
    → SaysText nodes xs c (filled path (elements_of ps) (values_of nodes xs given)) es
events_say nodes xs c path [] [] es e = none_say nodes xs c es e
events_say nodes xs c path [] (a ∷ rest) es e = absurd cc
events_say nodes xs c path (p.Said t ∷ ps) given es e =
    subst (λ (y : Option (List ℕ)). SaysText nodes xs c y es)
    (sym (filled_bytes path t (elements_of ps) (values_of nodes xs given)))
    (event_says nodes xs c (effect.Said t) t (piece_events c path ps given)
    (filled path (elements_of ps) (values_of nodes xs given)) es e (said_adds nodes xs c t)
    (λ fs. events_say nodes xs c path ps given fs))
events_say nodes xs c path (p.Path ∷ ps) given es e =
    event_says nodes xs c (effect.Said path) path (piece_events c path ps given)
    (filled path (elements_of ps) (values_of nodes xs given)) es e (said_adds nodes xs c path)
    (λ fs. events_say nodes xs c path ps given fs)
events_say nodes xs c path (p.Value i ∷ ps) [] es e = absurd cc
events_say nodes xs c path (p.Value i ∷ ps) (a ∷ rest) es e =
    event_says nodes xs c (showed i a) (value_text i.base i.fewest a.signed (width_at nodes a.node)
    (slice_index xs a.node)) (piece_events c path ps rest)
    (filled path (elements_of ps) (values_of nodes xs rest)) es e
    (λ n text more. fires_nothing (holds (slice_index xs c)) (block_fired nodes xs n
    (if holds (slice_index xs c) then text ++ value_text i.base i.fewest a.signed (width_at nodes a.node)
    (slice_index xs a.node) else text) more))
    (λ fs. events_say nodes xs c path ps rest fs)

-- ---- where there are none

no_event : (c : ℕ) (x : Effect) (t : List ℕ) (rest : Option (List Event)) (found : Option (List ℕ))
    → with_event c x rest ≡ None → (rest ≡ None → found ≡ None) → before t found ≡ None
no_event c x t None found e h = ap (before t) (h refl)
no_event c x t (Some fs) found e h = absurd cc

pub no_events : (nodes : List Node) (xs : List ℕ) (c : ℕ) (path : List ℕ) (ps : List Piece) (given : List Argument)
    → piece_events c path ps given ≡ None → filled path (elements_of ps) (values_of nodes xs given) ≡ None
no_events nodes xs c path [] [] e = absurd cc
no_events nodes xs c path [] (a ∷ rest) e = refl
no_events nodes xs c path (p.Said t ∷ ps) given e =
    filled_bytes path t (elements_of ps) (values_of nodes xs given)
    ∙ no_event c (effect.Said t) t (piece_events c path ps given)
    (filled path (elements_of ps) (values_of nodes xs given)) e (no_events nodes xs c path ps given)
no_events nodes xs c path (p.Path ∷ ps) given e = no_event c (effect.Said path) path (piece_events c path ps given)
    (filled path (elements_of ps) (values_of nodes xs given)) e (no_events nodes xs c path ps given)
no_events nodes xs c path (p.Value i ∷ ps) [] e = refl
no_events nodes xs c path (p.Value i ∷ ps) (a ∷ rest) e = no_event c (showed i a)
    (value_text i.base i.fewest a.signed (width_at nodes a.node) (slice_index xs a.node)) (piece_events c path ps rest)
    (filled path (elements_of ps) (values_of nodes xs rest)) e (no_events nodes xs c path ps rest)

-- ---- the text of the whole format

pub text_is : (path format : List ℕ) (xs : List Element) (vs : List Value) (found : Option (List ℕ))
    → elements format ≡ Some xs → filled path xs vs ≡ found → formatted path format vs ≡ found
text_is path format xs vs found is e = ap (λ y. option_and_then (λ ys. filled path ys vs) y) is ∙ e

pub no_text : (path format : List ℕ) (vs : List Value) → elements format ≡ None → formatted path format vs ≡ None
no_text path format vs is = ap (λ y. option_and_then (λ ys. filled path ys vs) y) is
