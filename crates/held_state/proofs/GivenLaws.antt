-- Numbers in the given slots of a design's program, and states that fit them.
use Rattle.std.proofs.Common.{◌≡◌, ℕ, zero, suc, ◌+◌, ◌^◌, ◌<◌, List, [], ◌∷◌, length, refl, sym, ap, subst, arith}
use Rattle.std.specs.Prelude.{slice_index, slice_index_or}
use Rattle.std.proofs.lemmas.List.{get_or-map, get_or-take, length-map, length-append}
use Rattle.netlist.specs.Design.{Flat}
use Rattle.netlist.specs.declared.design.RegisterPart.{RegisterPart}
use Rattle.step_program.specs.Values.{Slots, slot_value}
use Rattle.step_program.specs.Fits.{IsSlot}
use Rattle.step_program.specs.Plan.{Plan, given_in}
use Rattle.step_program.specs.declared.step.Slot.{Slot}
use Rattle.step_program.specs.declared.step.Slot.TheVariants as at
use Rattle.net_compile.specs.Cycle.{slot_at, given_widths, register_widths, input_widths, signal_width}
use Rattle.net_compile.specs.Compiles.{Machine, Compiles}
use Rattle.held_state.specs.Slots.{numbers}
use Rattle.held_state.specs.States.{RegistersFit}
use Rattle.held_state.proofs.Puts.{AllIn}

-- ---- numbers in slots

pub number_at : (x : Slots) (ss : List Slot) (k : ℕ) → k < length ss
    → slice_index (numbers x ss) k ≡ slot_value x (slot_at ss k)
number_at x ss k l = get_or-map (λ s. slot_value x s) ss k (at.Narrow 0) 0 l

pub given_value : (p : Plan) (x : Slots) (s : Slot) → IsSlot p.narrow p.wide s
    → slot_value (given_in p x) s ≡ slot_value x s
given_value p x (at.Narrow k) h = get_or-take p.narrow x.narrow k 0 h
given_value p x (at.Wide k) h = get_or-take p.wide x.wide k 0 h

pub given_numbers : (p : Plan) (x : Slots) (ss : List Slot) → AllIn p.narrow p.wide ss
    → numbers (given_in p x) ss ≡ numbers x ss
given_numbers p x [] h = refl
given_numbers p x (s ∷ ss) h =
    let here : slot_value (given_in p x) s ≡ slot_value x s = given_value p x s (h 0 (omega arith)) in
    let more : numbers (given_in p x) ss ≡ numbers x ss = given_numbers p x ss (λ k l. h (suc k) (omega arith)) in
    cc

-- ---- states that fit

pub register_fits : (ps : List RegisterPart) (ns : List ℕ) (k : ℕ) (d : RegisterPart) → RegistersFit ps ns
    → k < length ps → slice_index ns k < 2 ^ (slice_index_or ps k d).range.width
register_fits [] ns k d h l = absurd (omega (arith, l))
register_fits (p ∷ ps) [] k d h l = absurd h
register_fits (p ∷ ps) (n ∷ ns) zero d h l = h.0
register_fits (p ∷ ps) (n ∷ ns) (suc k) d h l = register_fits ps ns k d h.1 (omega (arith, l))

pub register_count : (ps : List RegisterPart) (ns : List ℕ) → RegistersFit ps ns → length ns ≡ length ps
register_count [] [] h = refl
register_count [] (n ∷ ns) h = absurd h
register_count (p ∷ ps) [] h = absurd h
register_count (p ∷ ps) (n ∷ ns) h = ap suc (register_count ps ns h.1)

-- ---- the given slots

pub slot_count : (f : Flat) (m : Machine) → Compiles f m
    → length m.front.slots ≡ length f.registers + length f.inputs
slot_count f m c =
    let a : length (register_widths f.registers) ≡ length f.registers = length-map f.registers (λ p. p.range.width) in
    let b : length (input_widths f.signals f.inputs) ≡ length f.inputs =
    length-map f.inputs (λ k. signal_width f.signals k) in
    let e : length (given_widths f) ≡ length (register_widths f.registers) + length (input_widths f.signals f.inputs) =
    length-append (register_widths f.registers) (input_widths f.signals f.inputs) in
    omega (arith, c.slots.count, a, b, e)

pub all_in : (f : Flat) (m : Machine) → Compiles f m → AllIn m.plan.narrow m.plan.wide m.front.slots
all_in f m c k l =
    subst (λ n. IsSlot n m.plan.wide (slot_at m.front.slots k)) (sym c.narrow)
    (subst (λ n. IsSlot m.front.narrow n (slot_at m.front.slots k)) (sym c.wide)
    (c.slots.within k (omega (arith, l, c.slots.count))))
