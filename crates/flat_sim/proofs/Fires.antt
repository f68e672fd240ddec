-- What fires, and whether something does.
use Rattle.std.proofs.Common.{◌≡◌, ℕ, suc, ◌+◌, ◌<◌, ◌≤◌, Bool, true, false, ◌&&◌, ◌||◌, List, [], ◌∷◌, ◌++◌, length, refl, sym, ap, ◌∙◌, subst, arith}
use Rattle.std.specs.Prelude.{if◌then◌else◌, slice_index, slice_index_or}
use Rattle.std.specs.List.{All, AllByRecursion}
use Rattle.std.proofs.lemmas.List.Elements.{recursion_from_All}
use Rattle.bit_ops.specs.Operators.{holds}
use Rattle.netlist.specs.Plain.{PlainBlock}
use Rattle.netlist.specs.Run.{Fired, is_stop, stop_count, said_more, block_fired, blocks_fired}
use Rattle.netlist.specs.declared.design.Event.{Event}
use Rattle.netlist.specs.declared.node.Node.{Node}
use Rattle.netlist.specs.Design.{Flat}
use Rattle.netlist.specs.Fits.{IsWellFormed}
use Rattle.step_program.specs.Values.{Slots, slot_value}
use Rattle.step_program.specs.declared.step.Slot.{Slot}
use Rattle.net_compile.specs.Cycle.{slot_at}
use Rattle.held_state.specs.Slots.{numbers}
use Rattle.flat_sim.specs.Stops.{block_stops, stop_slots, some_holds}
use Rattle.held_state.proofs.GivenLaws.{number_at}
use Rattle.held_state.proofs.Taken.{node_there}
use Rattle.flat_sim.specs.Stops.{stops_in, some_stops, has_some}

one_some : (done stops : Bool) (x : Fired) (more : List Fired) (rest : Bool) → has_some more ≡ rest
    → has_some ((if done then (if stops then x ∷ [] else []) else []) ++ more) ≡ ((done && stops) || rest)
one_some true true x more rest h = refl
one_some true false x more rest h = h
one_some false true x more rest h = h
one_some false false x more rest h = h

pub block_some : (nodes : List Node) (xs : List ℕ) (n : ℕ) (text : List ℕ) (es : List Event)
    → has_some (block_fired nodes xs n text es) ≡ stops_in xs es
block_some nodes xs n text [] = refl
block_some nodes xs n text (x ∷ es) =
    let done : Bool = holds (slice_index xs x.condition) in
    let stops : Bool = is_stop x.effect in
    one_some done stops (record { stop = n; message = text })
    (block_fired nodes xs (if stops then suc n else n) (if done then said_more nodes xs text x.effect else text) es)
    (stops_in xs es)
    (block_some nodes xs (if stops then suc n else n) (if done then said_more nodes xs text x.effect else text) es)

both_some : (a b : List Fired) (x y : Bool) → has_some a ≡ x → has_some b ≡ y → has_some (a ++ b) ≡ (x || y)
both_some [] b x y h i = subst (λ z. has_some b ≡ (z || y)) h i
both_some (f ∷ a) b x y h i = subst (λ z. true ≡ (z || y)) h refl

pub blocks_some : (nodes : List Node) (xs : List ℕ) (n : ℕ) (bs : List PlainBlock)
    → has_some (blocks_fired nodes xs n bs) ≡ some_stops xs bs
blocks_some nodes xs n [] = refl
blocks_some nodes xs n (b ∷ bs) =
    both_some (block_fired nodes xs n [] b.events) (blocks_fired nodes xs (n + stop_count b.events) bs)
    (stops_in xs b.events) (some_stops xs bs) (block_some nodes xs n [] b.events)
    (blocks_some nodes xs (n + stop_count b.events) bs)

one_few : (b : Bool) → (if b then 1 else 0) ≤ 1
one_few true = omega arith
one_few false = omega arith

-- no more stops than events
pub stops_few : (es : List Event) → stop_count es ≤ length es
stops_few [] = omega arith
stops_few (x ∷ es) =
    let one : (if is_stop x.effect then 1 else 0) ≤ 1 = one_few (is_stop x.effect) in
    let more : stop_count es ≤ length es = stops_few es in
    omega arith

-- ---- by the slots of the conditions

one_stop : (x : Slots) (s : Slot) (more : List Slot) (b d rest : Bool) → holds (slot_value x s) ≡ d
    → some_holds x more ≡ rest → some_holds x ((if b then s ∷ [] else []) ++ more) ≡ ((d && b) || rest)
one_stop x s more true true rest e h = subst (λ y. (y || some_holds x more) ≡ true) (sym e) refl
one_stop x s more true false rest e h = subst (λ y. (y || some_holds x more) ≡ rest) (sym e) h
one_stop x s more false true rest e h = h
one_stop x s more false false rest e h = h

block_holds : (x : Slots) (nodes : List Slot) (es : List Event)
    → AllByRecursion (λ (e : Event). e.condition < length nodes) es
    → some_holds x (block_stops nodes es) ≡ stops_in (numbers x nodes) es
block_holds x nodes [] h = refl
block_holds x nodes (e ∷ es) h =
    one_stop x (slot_at nodes e.condition) (block_stops nodes es) (is_stop e.effect)
    (holds (slice_index (numbers x nodes) e.condition)) (stops_in (numbers x nodes) es)
    (sym (ap holds (number_at x nodes e.condition h.0))) (block_holds x nodes es h.1)

or_more : (d p q r : Bool) → r ≡ (p || q) → (d || r) ≡ ((d || p) || q)
or_more true p q r h = refl
or_more false p q r h = h

hold_both : (x : Slots) (a b : List Slot) → some_holds x (a ++ b) ≡ (some_holds x a || some_holds x b)
hold_both x [] b = refl
hold_both x (s ∷ a) b =
    or_more (holds (slot_value x s)) (some_holds x a) (some_holds x b) (some_holds x (a ++ b)) (hold_both x a b)

all_hold : (x : Slots) (nodes : List Slot) (bs : List PlainBlock)
    → AllByRecursion (λ (b : PlainBlock). All (λ (e : Event). e.condition < length nodes) b.events) bs
    → some_holds x (stop_slots nodes bs) ≡ some_stops (numbers x nodes) bs
all_hold x nodes [] h = refl
all_hold x nodes (b ∷ bs) h =
    hold_both x (block_stops nodes b.events) (stop_slots nodes bs)
    ∙ ap (λ y. y || some_holds x (stop_slots nodes bs))
    (block_holds x nodes b.events (recursion_from_All (λ (e : Event). e.condition < length nodes) b.events h.0))
    ∙ ap (λ y. stops_in (numbers x nodes) b.events || y) (all_hold x nodes bs h.1)

-- the conditions of events are nodes
pub conditions_there : (f : Flat) → IsWellFormed f
    → All (λ (b : PlainBlock). All (λ (e : Event). e.condition < length f.nodes) b.events) f.blocks
conditions_there f w k d l i e m =
    node_there f.nodes (slice_index_or (slice_index_or f.blocks k d).events i e).condition (λ v. Unit {0})
    ((w.blocks k d l).1 i e m).0

-- some slot of a stop's condition holds exactly where something fires
pub some_fires : (f : Flat) (x : Slots) (nodes : List Slot) → IsWellFormed f → length nodes ≡ length f.nodes
    → some_holds x (stop_slots nodes f.blocks) ≡ has_some (blocks_fired f.nodes (numbers x nodes) 0 f.blocks)
some_fires f x nodes w count =
    all_hold x nodes f.blocks
    (recursion_from_All (λ (b : PlainBlock). All (λ (e : Event). e.condition < length nodes) b.events) f.blocks
    (subst (λ n. All (λ (b : PlainBlock). All (λ (e : Event). e.condition < n) b.events) f.blocks) (sym count)
    (conditions_there f w)))
    ∙ sym (blocks_some f.nodes (numbers x nodes) 0 f.blocks)
