-- What fires has the number of an assertion.
use Rattle.std.proofs.Common.{◌≡◌, ℕ, suc, ◌+◌, ◌<◌, ◌≤◌, Bool, true, false, List, [], ◌∷◌, length, refl, ap, ◌∙◌, arith, length-append}
use Rattle.std.specs.Prelude.{if◌then◌else◌}
use Rattle.std.specs.List.{All}
use Rattle.std.proofs.lemmas.List.Elements.{All-append, All-cons}
use Rattle.bit_ops.specs.Operators.{holds}
use Rattle.netlist.specs.Plain.{PlainBlock}
use Rattle.netlist.specs.Design.{Flat}
use Rattle.netlist.specs.Values.{Values, node_values}
use Rattle.netlist.specs.Run.{Fired, is_stop, stop_count, said_more, block_fired, blocks_fired, flat_fired}
use Rattle.netlist.specs.declared.design.Effect.{Effect}
use Rattle.netlist.specs.declared.design.Effect.TheVariants as e
use Rattle.netlist.specs.declared.design.Event.{Event}
use Rattle.netlist.specs.declared.node.Node.{Node}
use Rattle.std.specs.Prelude.{slice_index}
use Rattle.design_names.specs.Stops.{effect_stop, event_stops, block_stops, flat_stops}

-- ---- as many as are counted

one_counted : (scope : ℕ) (x : Effect) → length (effect_stop scope x) ≡ (if is_stop x then 1 else 0)
one_counted scope (e.Said text) = refl
one_counted scope (e.Showed shown) = refl
one_counted scope (e.Stopped place fatal) = refl

pub all_counted : (scope : ℕ) (xs : List Event) → length (event_stops scope xs) ≡ stop_count xs
all_counted scope [] = refl
all_counted scope (x ∷ xs) =
    length-append (effect_stop scope x.effect) (event_stops scope xs)
    ∙ ap (λ (n : ℕ). n + length (event_stops scope xs)) (one_counted scope x.effect)
    ∙ ap (λ (n : ℕ). (if is_stop x.effect then 1 else 0) + n) (all_counted scope xs)

-- ---- what fires

-- numbers below n
abbrev Low : ℕ → List Fired → Type 0
Low n fired = All (λ x. x.stop < n) fired

one_low : (done stops : Bool) (n m : ℕ) (text : List ℕ) → (stops ≡ true → n < m)
    → Low m (if done then (if stops then record { stop = n; message = text } ∷ [] else []) else [])
one_low true true n m text h = All-cons (λ (x : Fired). x.stop < m) (record { stop = n; message = text }) [] (h refl) (λ i d g. absurd (omega arith))
one_low true false n m text h = λ i d g. absurd (omega arith)
one_low false stops n m text h = λ i d g. absurd (omega arith)

count_first : (stops : Bool) (n rest : ℕ) → stops ≡ true → n < n + ((if stops then 1 else 0) + rest)
count_first true n rest h = omega arith
count_first false n rest h = absurd cc

count_next : (stops : Bool) (n rest : ℕ) → (if stops then suc n else n) + rest ≡ n + ((if stops then 1 else 0) + rest)
count_next true n rest = omega arith
count_next false n rest = omega arith

block_low : (nodes : List Node) (xs : List ℕ) (n m : ℕ) (text : List ℕ) (es : List Event) → n + stop_count es ≡ m
    → Low m (block_fired nodes xs n text es)
block_low nodes xs n m text [] h = λ i d g. absurd (omega arith)
block_low nodes xs n m text (x ∷ more) h =
    let done : Bool = holds (slice_index xs x.condition) in
    let stops : Bool = is_stop x.effect in
    All-append (λ (y : Fired). y.stop < m)
    (if done then (if stops then record { stop = n; message = text } ∷ [] else []) else [])
    (block_fired nodes xs (if stops then suc n else n) (if done then said_more nodes xs text x.effect else text) more)
    (one_low done stops n m text (λ s. omega (arith, h, count_first stops n (stop_count more) s)))
    (block_low nodes xs (if stops then suc n else n) m (if done then said_more nodes xs text x.effect else text) more
    (count_next stops n (stop_count more) ∙ h))

lower_low : (n m : ℕ) (fired : List Fired) → n ≤ m → Low n fired → Low m fired
lower_low n m fired h low = λ i d g. let less = low i d g in omega (arith, less, h)

blocks_low : (nodes : List Node) (xs : List ℕ) (n m : ℕ) (bs : List PlainBlock) → n + length (block_stops bs) ≡ m
    → Low m (blocks_fired nodes xs n bs)
blocks_low nodes xs n m [] h = λ i d g. absurd (omega arith)
blocks_low nodes xs n m (b ∷ bs) h =
    let here : ℕ = stop_count b.events in
    let size : length (block_stops (b ∷ bs)) ≡ here + length (block_stops bs) =
    length-append (event_stops b.scope b.events) (block_stops bs)
    ∙ ap (λ (k : ℕ). k + length (block_stops bs)) (all_counted b.scope b.events) in
    let fits : n + here ≤ m = omega arith in
    All-append (λ (y : Fired). y.stop < m) (block_fired nodes xs n [] b.events) (blocks_fired nodes xs (n + here) bs)
    (lower_low (n + here) m (block_fired nodes xs n [] b.events) fits (block_low nodes xs n (n + here) [] b.events refl))
    (blocks_low nodes xs (n + here) m bs (omega arith))

pub fired_low : (f : Flat) (v : Values) → All (λ x. x.stop < length (flat_stops f)) (flat_fired f v)
fired_low f v = blocks_low f.nodes (node_values f v) 0 (length (flat_stops f)) f.blocks (omega arith)
