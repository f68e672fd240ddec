-- Events say and fire what the old design's actions do.
use Rattle.std.proofs.Common.{◌≡◌, ℕ, zero, suc, ◌<◌, Bool, true, false, if◌then◌else◌, List, [], ◌∷◌, ◌++◌, length, refl, sym, ap, ◌∙◌, subst, arith, append-nil, append_assoc}
use Rattle.std.specs.Prelude.{None, Some, slice_index, drop, decimal}
use Rattle.std.specs.List.{All}
use Rattle.bit_ops.specs.Operators.{holds}
use Rattle.flat_ir.specs.Format.{format_text}
use Rattle.flat_ir.specs.Fired.{Fired, fired_in}
use Rattle.flat_ir.specs.Fired as plain
use Rattle.flat_ir.specs.FlatRun.{flat_events, action_events, deed_events, is_done}
use Rattle.flat_ir.specs.declared.design.Action.{Action}
use Rattle.netlist.specs.Fits.{IsNode, EventFits}
use Rattle.netlist.specs.declared.design.Effect.TheVariants as e
use Rattle.netlist.specs.declared.design.Event.{Event}
use Rattle.netlist.specs.declared.node.Node.{Node}
use Rattle.dt_core.specs.declared.place.Place.{Place}
use Rattle.design_names.specs.Stops.{effect_stop, event_stops}
use Rattle.design_names.specs.declared.stops.Stop.{Stop}
use Rattle.one_block.specs.SameDesign.{IsPlainStop}
use Rattle.one_block.specs.declared.made.Made.{Made}
use Rattle.one_block.specs.Calls.Nodes.{made_at}
use Rattle.one_block.specs.Calls.Front.{IsFront}
use Rattle.one_block.specs.Calls.Events.{shown_as, said_line, texts_of, effect_fired, text_behind, line_fired, text_left, text_after, Says, Tells, AddsText, AddsEvents}

-- ---- one list of events after another

fired_on : (nodes : List Node) (xs : List ℕ) (es fs : List Event) (text : List ℕ)
    → line_fired nodes xs text (es ++ fs) ≡ line_fired nodes xs text es ++ line_fired nodes xs (text_left nodes xs text es) fs
fired_on nodes xs [] fs text = refl
fired_on nodes xs (x ∷ es) fs text =
    let t : List ℕ = text_behind nodes xs text x in
    let first : List Fired = if holds (slice_index xs x.condition) then effect_fired text x.effect else [] in
    ap (λ (l : List Fired). first ++ l) (fired_on nodes xs es fs t)
    ∙ sym (append_assoc first (line_fired nodes xs t es) (line_fired nodes xs (text_left nodes xs t es) fs))

left_on : (nodes : List Node) (xs : List ℕ) (es fs : List Event) (text : List ℕ)
    → text_left nodes xs text (es ++ fs) ≡ text_left nodes xs (text_left nodes xs text es) fs
left_on nodes xs [] fs text = refl
left_on nodes xs (x ∷ es) fs text = left_on nodes xs es fs (text_behind nodes xs text x)

old_fired_on : (es fs : List plain.Event) (text : List ℕ) → fired_in text (es ++ fs) ≡ fired_in text es ++ fired_in (text_after text es) fs
old_fired_on [] fs text = refl
old_fired_on (plain.said more ∷ es) fs text = old_fired_on es fs (text ++ more)
old_fired_on (plain.stopped line ∷ es) fs text = ap (λ l. record { line = line; message = text } ∷ l) (old_fired_on es fs [])

old_left_on : (es fs : List plain.Event) (text : List ℕ) → text_after text (es ++ fs) ≡ text_after (text_after text es) fs
old_left_on [] fs text = refl
old_left_on (plain.said more ∷ es) fs text = old_left_on es fs (text ++ more)
old_left_on (plain.stopped line ∷ es) fs text = old_left_on es fs []

old_events_on : (vs : List ℕ) (as' bs : List Action) → flat_events vs (as' ++ bs) ≡ flat_events vs as' ++ flat_events vs bs
old_events_on vs [] bs = refl
old_events_on vs (a ∷ as') bs =
    ap (λ l. action_events vs a ++ l) (old_events_on vs as' bs) ∙ sym (append_assoc (action_events vs a) (flat_events vs as') (flat_events vs bs))

pub tells_on : (nodes : List Node) (xs vs : List ℕ) (es fs : List Event) (as' bs : List Action) → Tells nodes xs vs es as' → Tells nodes xs vs fs bs
    → Tells nodes xs vs (es ++ fs) (as' ++ bs)
tells_on nodes xs vs es fs as' bs h k = record {
  fired = λ text.
      fired_on nodes xs es fs text
      ∙ ap (λ l. l ++ line_fired nodes xs (text_left nodes xs text es) fs) (h.fired text)
      ∙ ap (λ t. fired_in text (flat_events vs as') ++ line_fired nodes xs t fs) (h.left text)
      ∙ ap (λ l. fired_in text (flat_events vs as') ++ l) (k.fired (text_after text (flat_events vs as')))
      ∙ sym (old_fired_on (flat_events vs as') (flat_events vs bs) text)
      ∙ ap (fired_in text) (sym (old_events_on vs as' bs));
  left = λ text.
      left_on nodes xs es fs text
      ∙ ap (λ t. text_left nodes xs t fs) (h.left text)
      ∙ k.left (text_after text (flat_events vs as'))
      ∙ sym (old_left_on (flat_events vs as') (flat_events vs bs) text)
      ∙ ap (text_after text) (sym (old_events_on vs as' bs));
}

-- ---- what holds of all

pub all_none : {X : Type 0} (P : X → Type 0) → All P []
all_none P k d l = absurd (omega arith)

pub all_more : {X : Type 0} (P : X → Type 0) (x : X) (xs : List X) → P x → All P xs → All P (x ∷ xs)
all_more P x xs h rest zero d l = h
all_more P x xs h rest (suc k) d l = rest k d (omega (arith, l))

pub all_on : {X : Type 0} (P : X → Type 0) (xs ys : List X) → All P xs → All P ys → All P (xs ++ ys)
all_on P [] ys h k = k
all_on P (x ∷ xs) ys h k = all_more P x (xs ++ ys) (h 0 x (omega arith)) (all_on P xs ys (λ i d l. h (suc i) d (omega (arith, l))) k)

one_event : (nodes : List Node) (x : Event) → EventFits nodes x → All (EventFits nodes) (x ∷ [])
one_event nodes x h = all_more (EventFits nodes) x [] h (all_none (EventFits nodes))

-- ---- texts

none_fired : (b : Bool) → ◌≡◌ {A = List Fired} ((if b then [] else []) ++ []) []
none_fired true = refl
none_fired false = refl

pub said : (nodes : List Node) (xs : List ℕ) (condition : ℕ) (t : List ℕ)
    → Says nodes xs condition t (record { condition = condition; effect = e.Said t } ∷ [])
said nodes xs condition t = record { fired = λ text. none_fired (holds (slice_index xs condition)); left = λ text. refl }

showed : (nodes : List Node) (xs : List ℕ) (condition node : ℕ)
    → Says nodes xs condition (decimal (slice_index xs node)) (record { condition = condition; effect = e.Showed (shown_as node) } ∷ [])
showed nodes xs condition node = record { fired = λ text. none_fired (holds (slice_index xs condition)); left = λ text. refl }

twice : (b : Bool) (text t u : List ℕ)
    → (if b then (if b then text ++ t else text) ++ u else (if b then text ++ t else text)) ≡ (if b then text ++ (t ++ u) else text)
twice true text t u = append_assoc text t u
twice false text t u = refl

says_on : (nodes : List Node) (xs : List ℕ) (condition : ℕ) (t u : List ℕ) (es fs : List Event) → Says nodes xs condition t es
    → Says nodes xs condition u fs → Says nodes xs condition (t ++ u) (es ++ fs)
says_on nodes xs condition t u es fs h k = record {
  fired = λ text.
      fired_on nodes xs es fs text
      ∙ ap (λ l. l ++ line_fired nodes xs (text_left nodes xs text es) fs) (h.fired text)
      ∙ k.fired (text_left nodes xs text es);
  left = λ text.
      left_on nodes xs es fs text
      ∙ k.left (text_left nodes xs text es)
      ∙ ap (λ l. if holds (slice_index xs condition) then l ++ u else l) (h.left text)
      ∙ twice (holds (slice_index xs condition)) text t u;
}

no_text : (b : Bool) (text : List ℕ) → text ≡ (if b then text ++ [] else text)
no_text true text = sym (append-nil text)
no_text false text = refl

texts_say : (nodes : List Node) (xs : List ℕ) (condition : ℕ) (t : List ℕ) → Says nodes xs condition t (texts_of condition t)
texts_say nodes xs condition [] = record { fired = λ text. refl; left = λ text. no_text (holds (slice_index xs condition)) text }
texts_say nodes xs condition (x ∷ t) = said nodes xs condition (x ∷ t)

says_as : (nodes : List Node) (xs : List ℕ) (condition : ℕ) (t u : List ℕ) (es : List Event) → t ≡ u → Says nodes xs condition t es
    → Says nodes xs condition u es
says_as nodes xs condition t u es same h = subst (λ v. Says nodes xs condition v es) same h

-- ---- the stops among events

stops_on : (es fs : List Event) → event_stops 0 (es ++ fs) ≡ event_stops 0 es ++ event_stops 0 fs
stops_on [] fs = refl
stops_on (x ∷ es) fs =
    let first : List Stop = effect_stop 0 x.effect in
    ap (λ l. first ++ l) (stops_on es fs) ∙ sym (append_assoc first (event_stops 0 es) (event_stops 0 fs))

-- a text in front adds no stop
texts_stop : (condition : ℕ) (t : List ℕ) (es : List Event) → event_stops 0 (texts_of condition t ++ es) ≡ event_stops 0 es
texts_stop condition [] es = refl
texts_stop condition (x ∷ t) es = refl

-- ---- a format that shows a node

texts_fit : (nodes : List Node) (condition : ℕ) (t : List ℕ) → IsNode nodes condition → All (EventFits nodes) (texts_of condition t)
texts_fit nodes condition [] h = all_none (EventFits nodes)
texts_fit nodes condition (x ∷ t) h = one_event nodes _ (h, tt)

-- it has no item
pub shows_none : (condition node : ℕ) (format text line : List ℕ) (before behind : List Event) → IsFront format text None → line ≡ text ++ 10 ∷ []
    → behind ≡ before ++ record { condition = condition; effect = e.Said line } ∷ []
    → AddsText condition node (λ xs. format_text format (slice_index xs node ∷ []) ++ 10 ∷ []) before behind
shows_none condition node format text line before behind front is whole = record {
  more = record { condition = condition; effect = e.Said line } ∷ [];
  whole = whole;
  fit = λ nodes c n. one_event nodes _ (c, tt);
  stops = refl;
  says = λ nodes xs. says_as nodes xs condition line _ _ (is ∙ ap (λ t. t ++ 10 ∷ []) (sym (front (slice_index xs node)))) (said nodes xs condition line);
}

-- its first item shows the node
pub shows_one : (condition node : ℕ) (format text rest : List ℕ) (end : ℕ) (first second third fourth : List Event) → IsFront format text (Some end)
    → rest ≡ drop end format → second ≡ first ++ texts_of condition text
    → third ≡ second ++ record { condition = condition; effect = e.Showed (shown_as node) } ∷ []
    → fourth ≡ third ++ said_line condition rest ∷ []
    → AddsText condition node (λ xs. format_text format (slice_index xs node ∷ []) ++ 10 ∷ []) first fourth
shows_one condition node format text rest end first second third fourth front is a b c =
    let shown : List Event = record { condition = condition; effect = e.Showed (shown_as node) } ∷ [] in
    let last : List Event = said_line condition rest ∷ [] in
    record {
      more = texts_of condition text ++ (shown ++ last);
      whole = c ∙ ap (λ l. l ++ last) (b ∙ ap (λ l. l ++ shown) a ∙ append_assoc first (texts_of condition text) shown)
          ∙ append_assoc first (texts_of condition text ++ shown) last
          ∙ ap (λ l. first ++ l) (append_assoc (texts_of condition text) shown last);
      fit = λ nodes i j. all_on (EventFits nodes) (texts_of condition text) (shown ++ last) (texts_fit nodes condition text i)
          (all_more (EventFits nodes) _ last (i, j) (one_event nodes _ (i, tt)));
      stops = texts_stop condition text (shown ++ last);
      says = λ nodes xs.
          let n : ℕ = slice_index xs node in
          let tail : List ℕ = format_text rest [] ++ 10 ∷ [] in
          says_as nodes xs condition (text ++ (decimal n ++ tail)) (format_text format (n ∷ []) ++ 10 ∷ []) _
          (ap (λ l. text ++ l) (sym (append_assoc (decimal n) (format_text rest []) (10 ∷ [])))
          ∙ sym (append_assoc text (decimal n ++ format_text rest []) (10 ∷ []))
          ∙ ap (λ f. (text ++ (decimal n ++ format_text f [])) ++ 10 ∷ []) is
          ∙ ap (λ l. l ++ 10 ∷ []) (sym (front.1 n)))
          (says_on nodes xs condition text (decimal n ++ tail) (texts_of condition text) (shown ++ last) (texts_say nodes xs condition text)
          (says_on nodes xs condition (decimal n) tail shown last (showed nodes xs condition node) (said nodes xs condition tail)));
    }

-- ---- one action

old_text : (b : Bool) (text t : List ℕ) → text_after text ((if b then plain.said t ∷ [] else []) ++ []) ≡ (if b then text ++ t else text)
old_text true text t = refl
old_text false text t = refl

old_quiet : (b : Bool) (text t : List ℕ) → fired_in text ((if b then plain.said t ∷ [] else []) ++ []) ≡ []
old_quiet true text t = refl
old_quiet false text t = refl

-- a text of the old design, and events that say it
pub says_tells : (nodes : List Node) (xs vs : List ℕ) (condition : ℕ) (t : List ℕ) (es : List Event) (a : Action)
    → slice_index xs condition ≡ slice_index vs a.condition → deed_events vs a.deed ≡ plain.said t ∷ [] → Says nodes xs condition t es
    → Tells nodes xs vs es (a ∷ [])
says_tells nodes xs vs condition t es a same is h =
    let b : Bool = is_done vs a in
    let events : flat_events vs (a ∷ []) ≡ (if b then plain.said t ∷ [] else []) ++ [] = ap (λ l. (if b then l else []) ++ []) is in
    record {
      fired = λ text. h.fired text ∙ sym (ap (fired_in text) events ∙ old_quiet b text t);
      left = λ text. h.left text ∙ ap (λ n. if holds n then text ++ t else text) same ∙ sym (ap (text_after text) events ∙ old_text b text t);
    }

nothing : (b : Bool) → ◌≡◌ {A = List plain.Event} ((if b then [] else []) ++ []) []
nothing true = refl
nothing false = refl

-- an action that says nothing
pub silent : (made : List Made) (events : List Event) (a : Action) → ((vs : List ℕ) → deed_events vs a.deed ≡ [])
    → AddsEvents made events events (a ∷ [])
silent made events a none =
    let all : (vs : List ℕ) → flat_events vs (a ∷ []) ≡ [] = λ vs. ap (λ l. (if is_done vs a then l else []) ++ []) (none vs) ∙ nothing (is_done vs a) in
    record {
      more = [];
      whole = sym (append-nil events);
      fit = λ nodes h. all_none (EventFits nodes);
      stops = all_none IsPlainStop;
      tells = λ nodes xs vs agree. record {
        fired = λ text. sym (ap (fired_in text) (all vs));
        left = λ text. sym (ap (text_after text) (all vs));
      };
    }

-- an action that says a text without an argument
pub says_plain : (made : List Made) (before behind : List Event) (a : Action) (format : List ℕ) → a.condition < length made
    → ((vs : List ℕ) → deed_events vs a.deed ≡ plain.said (format_text format [] ++ 10 ∷ []) ∷ [])
    → behind ≡ before ++ said_line (made_at made a.condition).node format ∷ [] → AddsEvents made before behind (a ∷ [])
says_plain made before behind a format l is whole = record {
  more = said_line (made_at made a.condition).node format ∷ [];
  whole = whole;
  fit = λ nodes h. one_event nodes _ (h a.condition l, tt);
  stops = all_none IsPlainStop;
  tells = λ nodes xs vs agree.
      says_tells nodes xs vs (made_at made a.condition).node (format_text format [] ++ 10 ∷ []) _ a (agree a.condition l) (is vs)
      (said nodes xs (made_at made a.condition).node (format_text format [] ++ 10 ∷ []));
}

-- one that shows a node
pub says_shown : (made : List Made) (before behind : List Event) (a : Action) (format : List ℕ) (k : ℕ) → a.condition < length made → k < length made
    → ((vs : List ℕ) → deed_events vs a.deed ≡ plain.said (format_text format (slice_index vs k ∷ []) ++ 10 ∷ []) ∷ [])
    → AddsText (made_at made a.condition).node (made_at made k).node (λ xs. format_text format (slice_index xs (made_at made k).node ∷ []) ++ 10 ∷ []) before behind
    → AddsEvents made before behind (a ∷ [])
says_shown made before behind a format k l m is h = record {
  more = h.more;
  whole = h.whole;
  fit = λ nodes there. h.fit nodes (there a.condition l) (there k m);
  stops = subst (All IsPlainStop) (sym h.stops) (all_none IsPlainStop);
  tells = λ nodes xs vs agree.
      says_tells nodes xs vs (made_at made a.condition).node (format_text format (slice_index vs k ∷ []) ++ 10 ∷ []) h.more a (agree a.condition l) (is vs)
      (says_as nodes xs (made_at made a.condition).node _ _ h.more (ap (λ n. format_text format (n ∷ []) ++ 10 ∷ []) (agree k m)) (h.says nodes xs));
}

stop_fired : (b : Bool) (text : List ℕ) (line : ℕ)
    → (if b then record { line = line; message = text } ∷ [] else []) ++ [] ≡ fired_in text ((if b then plain.stopped line ∷ [] else []) ++ [])
stop_fired true text line = refl
stop_fired false text line = refl

stop_left : (b : Bool) (text : List ℕ) (line : ℕ) → (if b then [] else text) ≡ text_after text ((if b then plain.stopped line ∷ [] else []) ++ [])
stop_left true text line = refl
stop_left false text line = refl

-- one that stops
pub stops : (made : List Made) (before behind : List Event) (a : Action) (place : Place) → a.condition < length made
    → ((vs : List ℕ) → deed_events vs a.deed ≡ plain.stopped place.line ∷ [])
    → behind ≡ before ++ record { condition = (made_at made a.condition).node; effect = e.Stopped place false } ∷ []
    → AddsEvents made before behind (a ∷ [])
stops made before behind a place l is whole = record {
  more = record { condition = (made_at made a.condition).node; effect = e.Stopped place false } ∷ [];
  whole = whole;
  fit = λ nodes h. one_event nodes _ (h a.condition l, tt);
  stops = all_more IsPlainStop _ [] (refl, refl) (all_none IsPlainStop);
  tells = λ nodes xs vs agree.
      let b : Bool = is_done vs a in
      let events : flat_events vs (a ∷ []) ≡ (if b then plain.stopped place.line ∷ [] else []) ++ [] = ap (λ l. (if b then l else []) ++ []) (is vs) in
      record {
        fired = λ text. ap (λ n. (if holds n then record { line = place.line; message = text } ∷ [] else []) ++ []) (agree a.condition l)
            ∙ stop_fired b text place.line ∙ sym (ap (fired_in text) events);
        left = λ text. ap (λ n. if holds n then [] else text) (agree a.condition l) ∙ stop_left b text place.line ∙ sym (ap (text_after text) events);
      };
}

-- ---- all actions

pub none_told : (made : List Made) → AddsEvents made [] [] []
none_told made = record {
  more = [];
  whole = refl;
  fit = λ nodes h. all_none (EventFits nodes);
  stops = all_none IsPlainStop;
  tells = λ nodes xs vs agree. record { fired = λ text. refl; left = λ text. refl };
}

pub told_on : (made : List Made) (a b c : List Event) (done next : List Action) → AddsEvents made a b done → AddsEvents made b c next
    → AddsEvents made a c (done ++ next)
told_on made a b c done next h k = record {
  more = h.more ++ k.more;
  whole = k.whole ∙ ap (λ l. l ++ k.more) h.whole ∙ append_assoc a h.more k.more;
  fit = λ nodes there. all_on (EventFits nodes) h.more k.more (h.fit nodes there) (k.fit nodes there);
  stops = subst (All IsPlainStop) (sym (stops_on h.more k.more)) (all_on IsPlainStop _ _ h.stops k.stops);
  tells = λ nodes xs vs agree. tells_on nodes xs vs h.more k.more done next (h.tells nodes xs vs agree) (k.tells nodes xs vs agree);
}
