-- Where all register parts are narrow, the moves go from and to their slots in order.
use Rattle.std.proofs.Common.{◌≡◌, ℕ, ◌+◌, ◌≤◌, List, [], ◌∷◌, length, take, refl, sym, ap, ◌∙◌, arith}
use Rattle.std.specs.Prelude.{slice_index}
use Rattle.std.proofs.lemmas.List.{length-map, length-take-le}
use Rattle.netlist.specs.Design.{Flat}
use Rattle.netlist.specs.Fits.{IsWellFormed}
use Rattle.netlist.specs.declared.design.RegisterPart.{RegisterPart}
use Rattle.step_program.specs.Values.{Slots}
use Rattle.step_program.specs.declared.step.Slot.{Slot}
use Rattle.step_program.specs.declared.step.Slot.TheVariants as at
use Rattle.net_compile.specs.Cycle.{slot_at}
use Rattle.net_compile.specs.Compiles.{Machine, Compiles}
use Rattle.held_state.specs.declared.commits.Commit.{Commit}
use Rattle.held_state.specs.Slots.{numbers}
use Rattle.held_state.specs.Moves.{moved, narrow_moves, next_slots, next_numbers, register_numbers, IsCommitOf}
use Rattle.held_state.proofs.GivenLaws.{slot_count}
use Rattle.held_state.proofs.Taken.{next_are}
use Rattle.flat_sim.specs.Compared.{to_numbers}

narrow_count : (to from : List Slot) → length (narrow_moves to from) ≤ length to
narrow_count [] from = omega arith
narrow_count (t ∷ to) [] = omega arith
narrow_count (at.Narrow k ∷ to) (at.Narrow j ∷ from) = omega (arith, narrow_count to from)
narrow_count (at.Narrow k ∷ to) (at.Wide j ∷ from) = omega (arith, narrow_count to from)
narrow_count (at.Wide k ∷ to) (f ∷ from) = omega (arith, narrow_count to from)

-- where there is one for each slot, they go from and to the slots in their order
narrow_all : (x : Slots) (to from : List Slot) → length to ≡ length from → length (narrow_moves to from) ≡ length to
    → (to_numbers x.narrow (narrow_moves to from) ≡ numbers x to) × (moved 0 x.narrow (narrow_moves to from) ≡ numbers x from)
narrow_all x [] [] c n = (refl, refl)
narrow_all x [] (f ∷ from) c n = absurd (omega (arith, c))
narrow_all x (t ∷ to) [] c n = absurd (omega (arith, c))
narrow_all x (at.Narrow k ∷ to) (at.Narrow j ∷ from) c n =
    let more = narrow_all x to from (omega (arith, c)) (omega (arith, n)) in
    (λ i. slice_index x.narrow k ∷ more.0 i, λ i. slice_index x.narrow j ∷ more.1 i)
narrow_all x (at.Narrow k ∷ to) (at.Wide j ∷ from) c n = absurd (omega (arith, n, narrow_count to from))
narrow_all x (at.Wide k ∷ to) (f ∷ from) c n = absurd (omega (arith, n, narrow_count to from))

-- so those of a design, where there is one for each register part
pub narrow_numbers : (f : Flat) (m : Machine) (c : Commit) (x : Slots) → IsWellFormed f → Compiles f m → IsCommitOf f m c
    → length c.moves.narrow.items ≡ length f.registers
    → (to_numbers x.narrow c.moves.narrow.items ≡ register_numbers f m x)
    × (moved 0 x.narrow c.moves.narrow.items ≡ next_numbers f (numbers x m.nodes))
narrow_numbers f m c x w compiles is all =
    let r : ℕ = length f.registers in
    let to : List Slot = take r m.front.slots in
    let from : List Slot = next_slots f.registers m.nodes in
    let count : length m.front.slots ≡ length f.registers + length f.inputs = slot_count f m compiles in
    let to_count : length to ≡ r = length-take-le r m.front.slots (omega (arith, count)) in
    let from_count : length from ≡ r = length-map f.registers (λ (p : RegisterPart). slot_at m.nodes p.next) in
    let both = narrow_all x to from (to_count ∙ sym from_count) (sym (ap length is.moves.narrow) ∙ all ∙ sym to_count) in
    (ap (to_numbers x.narrow) is.moves.narrow ∙ both.0, ap (moved 0 x.narrow) is.moves.narrow ∙ both.1 ∙ next_are f m x w compiles)
