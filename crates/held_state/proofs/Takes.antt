-- The given slots take the numbers of states and rows.
use Rattle.std.proofs.Common.{◌≡◌, ℕ, ◌+◌, ◌<◌, ◌≤◌, List, length, take, drop, sym, ap, ◌∙◌, subst, arith}
use Rattle.std.specs.Prelude.{slice_index, slice_index_or, slice_get, Option}
use Rattle.std.specs.Option.{option_map, unwrap_or}
use Rattle.std.proofs.lemmas.Option.{slice_get_within, get_or_from_slice_get}
use Rattle.netlist.proofs.Puts.{some_with}
use Rattle.net_compile.proofs.GivenSlots.{blank}
use Rattle.netlist.specs.declared.design.RegisterPart.{RegisterPart}
use Rattle.netlist.specs.declared.design.Signal.{Signal}
use Rattle.std.proofs.lemmas.List.{get_or-take, get_or-drop, length-take-le, length-drop, length-map, get_or-map, get_or_append_left, get_or-append-add}
use Rattle.std.proofs.lemmas.List.Elements.{All-get_or}
use Rattle.netlist.specs.Design.{Flat}
use Rattle.netlist.specs.Fits.{IsWellFormed, IsWidth, RegisterFits, IsInput}
use Rattle.step_program.specs.Values.{Slots, is_narrow_width}
use Rattle.step_program.specs.Plan.{IsReady}
use Rattle.step_program.specs.declared.step.Slot.TheVariants as at
use Rattle.net_compile.specs.Cycle.{RowFits, given_widths, register_widths, input_widths, signal_width, slot_at}
use Rattle.net_compile.specs.Compiles.{Machine, Compiles}
use Rattle.held_state.specs.Slots.{Takes, AllTake}
use Rattle.held_state.specs.States.{RegistersFit}
use Rattle.held_state.proofs.Puts.{AllIn}
use Rattle.held_state.proofs.GivenLaws.{all_in, slot_count, register_fits, register_count}
use Rattle.held_state.proofs.Machines.{in_taken, in_dropped, all_wider, take_fits}

input_width_at : (f : Flat) (k : ℕ) → k < length f.inputs
    → slice_index (given_widths f) (length f.registers + k) ≡ signal_width f.signals (slice_index f.inputs k)
input_width_at f k l =
    let count : length (register_widths f.registers) ≡ length f.registers =
    length-map f.registers (λ p. p.range.width) in
    ap (λ n. slice_index (given_widths f) (n + k)) (sym count)
    ∙ get_or-append-add (register_widths f.registers) (input_widths f.signals f.inputs) k 0
    ∙ get_or-map (λ n. signal_width f.signals n) f.inputs k 0 0 l

pub input_wide : (f : Flat) → IsWellFormed f → (k : ℕ) → k < length f.inputs
    → signal_width f.signals (slice_index f.inputs k) ≤ 128
input_wide f w k l =
    let s : ℕ = slice_index f.inputs k in
    let x = some_with (slice_get f.signals s) (λ (y : Signal). IsInput y.role k) (w.signals.inputs k 0 l) in
    let there : s < length f.signals = slice_get_within f.signals s x.0 x.1 in
    let wide : IsWidth x.0.width =
    subst (λ (y : Signal). IsWidth y.width) (get_or_from_slice_get f.signals s x.0 x.0 x.1)
    (w.signals.each s x.0 there).1 in
    let is : signal_width f.signals s ≡ x.0.width =
    ap (λ (o : Option Signal). unwrap_or (option_map (λ (y : Signal). y.width) o) 0) x.1 in
    omega (arith, is, wide.1)

pub row_takes : (f : Flat) (m : Machine) (x : Slots) (row : List ℕ) → IsWellFormed f → Compiles f m
    → IsReady m.plan x → length row ≡ length f.inputs → RowFits f row
    → AllTake (length x.narrow) (length x.wide) (drop (length f.registers) m.front.slots) row
row_takes f m x row w c ready count fits =
    let r : ℕ = length f.registers in
    let all : length m.front.slots ≡ length f.registers + length f.inputs = slot_count f m c in
    let back : AllIn m.plan.narrow m.plan.wide (drop r m.front.slots) =
    in_dropped m.plan.narrow m.plan.wide m.front.slots r (all_in f m c) in
    let back_count : length (drop r m.front.slots) ≡ length row =
    omega (arith, length-drop r m.front.slots, all, count) in
    record {
      count = back_count;
      there = λ k l. all_wider m.plan x ready (drop r m.front.slots) back k (omega (arith, l, back_count));
      takes = λ k l.
          let i : k < length f.inputs = omega (arith, l, count) in
          subst (λ s. Takes s (slice_index row k)) (sym (get_or-drop r m.front.slots k (at.Narrow 0)))
          (take_fits (slot_at m.front.slots (r + k)) (signal_width f.signals (slice_index f.inputs k)) (slice_index row k)
          (c.slots.kind (r + k) (omega (arith, i, all, c.slots.count)) ∙ ap is_narrow_width (input_width_at f k i))
          (fits k i) (input_wide f w k i));
    }

pub register_width_at : (f : Flat) (k : ℕ) → k < length f.registers
    → slice_index (given_widths f) k ≡ (slice_index_or f.registers k blank).range.width
register_width_at f k l =
    let count : length (register_widths f.registers) ≡ length f.registers =
    length-map f.registers (λ p. p.range.width) in
    get_or_append_left (register_widths f.registers) (input_widths f.signals f.inputs) 0 k (omega (arith, l, count))
    ∙ get_or-map (λ (p : RegisterPart). p.range.width) f.registers k blank 0 l

pub state_takes : (f : Flat) (m : Machine) (x : Slots) (ns : List ℕ) → IsWellFormed f → Compiles f m
    → IsReady m.plan x → RegistersFit f.registers ns
    → AllTake (length x.narrow) (length x.wide) (take (length f.registers) m.front.slots) ns
state_takes f m x ns w c ready fits =
    let r : ℕ = length f.registers in
    let all : length m.front.slots ≡ length f.registers + length f.inputs = slot_count f m c in
    let count : length ns ≡ length f.registers = register_count f.registers ns fits in
    let front : AllIn m.plan.narrow m.plan.wide (take r m.front.slots) =
    in_taken m.plan.narrow m.plan.wide m.front.slots r (omega (arith, all)) (all_in f m c) in
    let front_count : length (take r m.front.slots) ≡ r = length-take-le r m.front.slots (omega (arith, all)) in
    record {
      count = front_count ∙ sym count;
      there = λ k l. all_wider m.plan x ready (take r m.front.slots) front k (omega (arith, l, front_count, count));
      takes = λ k l.
          let i : k < length f.registers = omega (arith, l, count) in
          let h : RegisterFits (length f.blocks) f.signals f.nodes (slice_index_or f.registers k blank) =
          All-get_or (RegisterFits (length f.blocks) f.signals f.nodes) f.registers k blank i w.parts.registers in
          subst (λ s. Takes s (slice_index ns k)) (sym (get_or-take r m.front.slots k (at.Narrow 0) i))
          (take_fits (slot_at m.front.slots k) (slice_index_or f.registers k blank).range.width (slice_index ns k)
          (c.slots.kind k (omega (arith, i, all, c.slots.count)) ∙ ap is_narrow_width (register_width_at f k i))
          (register_fits f.registers ns k blank fits i) h.3.0.1);
    }
