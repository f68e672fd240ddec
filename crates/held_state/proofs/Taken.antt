-- Moves between slots give the register parts the values of their next nodes.
use Rattle.std.proofs.Common.{◌≡◌, ℕ, zero, suc, ◌+◌, ◌<◌, ◌≤◌, true, false, List, [], ◌∷◌, length, take, refl, sym, ap, ◌∙◌, subst, arith}
use Rattle.std.specs.Prelude.{map, slice_get, slice_index, slice_index_or}
use Rattle.std.specs.List.{All, AllByRecursion}
use Rattle.std.proofs.lemmas.List.{get_or-take, get_or-map, length-map, length-take-le}
use Rattle.std.proofs.lemmas.Option.{slice_get_within}
use Rattle.std.proofs.lemmas.List.Elements.{All-nil, All-cons, All-get_or, recursion_from_All}
use Rattle.netlist.specs.Design.{Flat}
use Rattle.netlist.specs.Fits.{IsWellFormed, RegisterFits, HasNode}
use Rattle.netlist.specs.Values.{width_at}
use Rattle.netlist.specs.declared.design.RegisterPart.{RegisterPart}
use Rattle.netlist.specs.declared.node.Node.{Node}
use Rattle.netlist.proofs.Puts.{some_with}
use Rattle.step_program.specs.Values.{Slots, slot_value, is_narrow_width}
use Rattle.step_program.specs.Fits.{IsSlot, is_narrow_slot}
use Rattle.step_program.specs.Plan.{IsReady, narrow_total}
use Rattle.step_program.specs.declared.step.Slot.{Slot}
use Rattle.step_program.specs.declared.step.Slot.TheVariants as at
use Rattle.net_compile.specs.Cycle.{slot_at}
use Rattle.net_compile.specs.Compiles.{Machine, Compiles}
use Rattle.net_compile.proofs.GivenSlots.{blank}
use Rattle.net_compile.proofs.Fitting.{some_width}
use Rattle.held_state.specs.declared.commits.Move.{Move}
use Rattle.held_state.specs.declared.commits.Commit.{Commit}
use Rattle.held_state.specs.Slots.{numbers, with_number, with_numbers}
use Rattle.held_state.specs.Moves.{HaveMoved, narrow_moves, wide_moves, AreThere, IsThere, after_both, after_moves, next_slots, next_numbers, register_numbers, IsCommitOf}
use Rattle.held_state.proofs.Puts.{AllIn}
use Rattle.held_state.proofs.GivenLaws.{number_at, all_in, slot_count}
use Rattle.held_state.proofs.Machines.{PutState, put_state, in_taken, all_wider}
use Rattle.held_state.proofs.Takes.{register_width_at}

-- ---- numbers on their way

all_taken : {T : Type 0} (xs : List T) (k : ℕ) → length xs ≤ k → take k xs ≡ xs
all_taken [] zero l = refl
all_taken [] (suc k) l = refl
all_taken (x ∷ xs) zero l = absurd (omega (arith, l))
all_taken (x ∷ xs) (suc k) l = ap (λ ys. x ∷ ys) (all_taken xs k (omega (arith, l)))

pub all_moved : {T : Type 0} (xs : List T) (ms : List Move) (ns : List T) (k : ℕ) → length ms ≤ k
    → length ns ≡ length ms → HaveMoved xs (take k ms) (take k ns) → HaveMoved xs ms ns
all_moved {T} xs ms ns k l count h =
    subst (λ (vs : List Move). HaveMoved xs vs ns) (all_taken ms k l)
    (subst (λ (us : List T). HaveMoved xs (take k ms) us) (all_taken ns k (omega (arith, l, count))) h)

-- ---- moves between slots of the same kinds

abbrev pub SameKinds : List Slot → List Slot → Type 0
SameKinds to from = (k : ℕ) → k < length to → is_narrow_slot (slot_at to k) ≡ is_narrow_slot (slot_at from k)

-- the moves put the numbers of the slots from which they go into those to which they go
pub as_numbers : (x y : Slots) (to from : List Slot) → length to ≡ length from → SameKinds to from
    → after_both x y (narrow_moves to from) (wide_moves to from) ≡ with_numbers x to (numbers y from)
as_numbers x y [] [] c h = refl
as_numbers x y [] (f ∷ from) c h = absurd (omega (arith, c))
as_numbers x y (t ∷ to) [] c h = absurd (omega (arith, c))
as_numbers x y (at.Narrow k ∷ to) (at.Narrow j ∷ from) c h =
    as_numbers (with_number x (at.Narrow k) (slice_index y.narrow j)) y to from (omega (arith, c))
    (λ i l. h (suc i) (omega (arith, l)))
as_numbers x y (at.Narrow k ∷ to) (at.Wide j ∷ from) c h = let e : true ≡ false = h 0 (omega arith) in absurd cc
as_numbers x y (at.Wide k ∷ to) (at.Narrow j ∷ from) c h = let e : false ≡ true = h 0 (omega arith) in absurd cc
as_numbers x y (at.Wide k ∷ to) (at.Wide j ∷ from) c h =
    as_numbers (with_number x (at.Wide k) (slice_index y.wide j)) y to from (omega (arith, c))
    (λ i l. h (suc i) (omega (arith, l)))

-- moves between slots that are there
narrow_there : (n m : ℕ) (to from : List Slot) → AllIn n m to → AllIn n m from → AreThere n (narrow_moves to from)
narrow_there n m [] from i g = (All-nil (λ (v : Move). v.from < n), All-nil (λ (v : Move). v.to < n))
narrow_there n m (t ∷ to) [] i g = (All-nil (λ (v : Move). v.from < n), All-nil (λ (v : Move). v.to < n))
narrow_there n m (at.Narrow k ∷ to) (at.Narrow j ∷ from) i g =
    let more = narrow_there n m to from (λ p l. i (suc p) (omega (arith, l))) (λ p l. g (suc p) (omega (arith, l))) in
    let one : Move = record { from = j; to = k } in (
      All-cons (λ (v : Move). v.from < n) one (narrow_moves to from) (g 0 (omega arith)) more.0,
      All-cons (λ (v : Move). v.to < n) one (narrow_moves to from) (i 0 (omega arith)) more.1,
    )
narrow_there n m (at.Narrow k ∷ to) (at.Wide j ∷ from) i g =
    narrow_there n m to from (λ p l. i (suc p) (omega (arith, l))) (λ p l. g (suc p) (omega (arith, l)))
narrow_there n m (at.Wide k ∷ to) (f ∷ from) i g =
    narrow_there n m to from (λ p l. i (suc p) (omega (arith, l))) (λ p l. g (suc p) (omega (arith, l)))

wide_there : (n m : ℕ) (to from : List Slot) → AllIn n m to → AllIn n m from → AreThere m (wide_moves to from)
wide_there n m [] from i g = (All-nil (λ (v : Move). v.from < m), All-nil (λ (v : Move). v.to < m))
wide_there n m (t ∷ to) [] i g = (All-nil (λ (v : Move). v.from < m), All-nil (λ (v : Move). v.to < m))
wide_there n m (at.Wide k ∷ to) (at.Wide j ∷ from) i g =
    let more = wide_there n m to from (λ p l. i (suc p) (omega (arith, l))) (λ p l. g (suc p) (omega (arith, l))) in
    let one : Move = record { from = j; to = k } in (
      All-cons (λ (v : Move). v.from < m) one (wide_moves to from) (g 0 (omega arith)) more.0,
      All-cons (λ (v : Move). v.to < m) one (wide_moves to from) (i 0 (omega arith)) more.1,
    )
wide_there n m (at.Wide k ∷ to) (at.Narrow j ∷ from) i g =
    wide_there n m to from (λ p l. i (suc p) (omega (arith, l))) (λ p l. g (suc p) (omega (arith, l)))
wide_there n m (at.Narrow k ∷ to) (f ∷ from) i g =
    wide_there n m to from (λ p l. i (suc p) (omega (arith, l))) (λ p l. g (suc p) (omega (arith, l)))

-- ---- the moves of a design

-- the next node of a register part is there and has its width
next_fits : (f : Flat) (k : ℕ) → IsWellFormed f → k < length f.registers
    → width_at f.nodes (slice_index_or f.registers k blank).next ≡ (slice_index_or f.registers k blank).range.width
next_fits f k w l =
    let p : RegisterPart = slice_index_or f.registers k blank in
    let h : RegisterFits (length f.blocks) f.signals f.nodes p =
    All-get_or (RegisterFits (length f.blocks) f.signals f.nodes) f.registers k blank l w.parts.registers in
    some_width f.nodes p.next (λ v. v ≡ p.range.width) h.2

pub node_there : (xs : List Node) (k : ℕ) (P : ℕ → Type 0) → HasNode xs k P → k < length xs
node_there xs k P h =
    let x = some_with (slice_get xs k) (λ (y : Node). P y.width) h in
    slice_get_within xs k x.0 x.1

pub next_there : (f : Flat) → IsWellFormed f → All (λ (p : RegisterPart). p.next < length f.nodes) f.registers
next_there f w k d l =
    node_there f.nodes (slice_index_or f.registers k d).next (λ v. v ≡ (slice_index_or f.registers k d).range.width)
    (w.parts.registers k d l).2

same_kinds : (f : Flat) (m : Machine) → IsWellFormed f → Compiles f m
    → SameKinds (take (length f.registers) m.front.slots) (next_slots f.registers m.nodes)
same_kinds f m w c k l =
    let r : ℕ = length f.registers in
    let count : length m.front.slots ≡ length f.registers + length f.inputs = slot_count f m c in
    let few : k < r = omega (arith, length-take-le r m.front.slots (omega (arith, count)), l) in
    let p : RegisterPart = slice_index_or f.registers k blank in
    ap is_narrow_slot (get_or-take r m.front.slots k (at.Narrow 0) few)
    ∙ c.slots.kind k (omega (arith, few, count, c.slots.count))
    ∙ ap is_narrow_width (register_width_at f k few ∙ sym (next_fits f k w few))
    ∙ sym (c.kind p.next (next_there f w k blank few))
    ∙ sym (ap is_narrow_slot (get_or-map (λ (q : RegisterPart). slot_at m.nodes q.next) f.registers k blank (at.Narrow 0) few))

next_values : (x : Slots) (nodes : List Slot) (parts : List RegisterPart)
    → AllByRecursion (λ (p : RegisterPart). p.next < length nodes) parts
    → numbers x (next_slots parts nodes) ≡ map (λ (p : RegisterPart). slice_index (numbers x nodes) p.next) parts
next_values x nodes [] h = refl
next_values x nodes (p ∷ ps) h =
    let here : slice_index (numbers x nodes) p.next ≡ slot_value x (slot_at nodes p.next) = number_at x nodes p.next h.0 in
    let more : numbers x (next_slots ps nodes) ≡ map (λ (q : RegisterPart). slice_index (numbers x nodes) q.next) ps =
    next_values x nodes ps h.1 in
    cc

-- the numbers in the slots of the next nodes
pub next_are : (f : Flat) (m : Machine) (x : Slots) → IsWellFormed f → Compiles f m
    → numbers x (next_slots f.registers m.nodes) ≡ next_numbers f (numbers x m.nodes)
next_are f m x w compiles =
    next_values x m.nodes f.registers (recursion_from_All (λ (p : RegisterPart). p.next < length m.nodes) f.registers
    (λ k d l. subst (λ n. (slice_index_or f.registers k d).next < n) (sym compiles.count) (next_there f w k d l)))

next_in : (f : Flat) (m : Machine) (x : Slots) → IsWellFormed f → Compiles f m → IsReady m.plan x
    → AllIn (length x.narrow) (length x.wide) (next_slots f.registers m.nodes)
next_in f m x w compiles ready k l =
    let few : k < length f.registers = omega (arith, l, length-map f.registers (λ (p : RegisterPart). slot_at m.nodes p.next)) in
    let p : RegisterPart = slice_index_or f.registers k blank in
    subst (λ (s : Slot). IsSlot (length x.narrow) (length x.wide) s)
    (sym (get_or-map (λ (q : RegisterPart). slot_at m.nodes q.next) f.registers k blank (at.Narrow 0) few))
    (subst (λ n. IsSlot n (length x.wide) (slot_at m.nodes p.next)) (sym ready.narrow)
    (subst (λ n. IsSlot (narrow_total m.plan) n (slot_at m.nodes p.next)) (sym ready.wide)
    (compiles.within p.next (next_there f w k blank few))))

-- the moves of a design are there
pub commit_there : (f : Flat) (m : Machine) (c : Commit) (x : Slots) → IsWellFormed f → Compiles f m → IsReady m.plan x
    → IsCommitOf f m c → IsThere x c
commit_there f m c x w compiles ready is =
    let r : ℕ = length f.registers in
    let to : List Slot = take r m.front.slots in
    let from : List Slot = next_slots f.registers m.nodes in
    let count : length m.front.slots ≡ length f.registers + length f.inputs = slot_count f m compiles in
    let i : AllIn (length x.narrow) (length x.wide) to =
    all_wider m.plan x ready to
    (in_taken m.plan.narrow m.plan.wide m.front.slots r (omega (arith, count)) (all_in f m compiles)) in
    let g : AllIn (length x.narrow) (length x.wide) from = next_in f m x w compiles ready in (
      subst (λ (vs : List Move). AreThere (length x.narrow) vs) (sym is.moves.narrow)
          (narrow_there (length x.narrow) (length x.wide) to from i g),
      subst (λ (vs : List Move). AreThere (length x.wide) vs) (sym is.moves.wide)
          (wide_there (length x.narrow) (length x.wide) to from i g),
    )

-- the register parts took the values of their next nodes
pub record Took (f : Flat) (m : Machine) (x y : Slots) : Type 0 where
  pub ready : IsReady m.plan y
  pub registers : register_numbers f m y ≡ next_numbers f (numbers x m.nodes)

pub took : (f : Flat) (m : Machine) (c : Commit) (x y : Slots) → IsWellFormed f → Compiles f m → IsReady m.plan x
    → IsCommitOf f m c → y ≡ after_moves c.moves x → Took f m x y
took f m c x y w compiles ready is e =
    let r : ℕ = length f.registers in
    let to : List Slot = take r m.front.slots in
    let from : List Slot = next_slots f.registers m.nodes in
    let count : length m.front.slots ≡ length f.registers + length f.inputs = slot_count f m compiles in
    let to_count : length to ≡ r = length-take-le r m.front.slots (omega (arith, count)) in
    let from_count : length from ≡ r = length-map f.registers (λ (p : RegisterPart). slot_at m.nodes p.next) in
    let as_put : y ≡ with_numbers x to (numbers x from) =
    e ∙ ap (λ (vs : List Move). after_both x x vs c.moves.wide.items) is.moves.narrow
    ∙ ap (λ (vs : List Move). after_both x x (narrow_moves to from) vs) is.moves.wide
    ∙ as_numbers x x to from (to_count ∙ sym from_count) (same_kinds f m w compiles) in
    let put : PutState r m (with_numbers x to (numbers x from)) (numbers x from) =
    put_state f m x (numbers x from) compiles ready (length-map from (λ s. slot_value x s) ∙ from_count) in
    record {
      ready = subst (λ (u : Slots). IsReady m.plan u) (sym as_put) put.ready;
      registers = ap (λ (u : Slots). register_numbers f m u) as_put ∙ put.registers ∙ next_are f m x w compiles;
    }
