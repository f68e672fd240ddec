use Rattle.std.proofs.Common.{◌≡◌, ◌∙◌, List, ℕ, length, take, sym, ap, subst, arith}
use Rattle.step_program.specs.Plan.{held}
use Rattle.step_program.specs.declared.step.Slot.{Slot}
use Rattle.held_state.specs.Moves.{AreThere, moved, next_numbers, register_numbers}
use Rattle.held_state.specs.Noting.{AddsRegisters}
use Rattle.flat_sim.specs.Compared.{to_numbers}
use Rattle.held_state.specs.Slots.{numbers}
use Rattle.held_state.specs.States.{RegistersFit}
use Rattle.held_state.specs.Writes.{NodeValues}
use Rattle.held_state.specs.declared.commits.Move.{Move}
use Rattle.held_state.proofs.Taken.{commit_there}
use Rattle.flat_sim.proofs.Narrow.{narrow_numbers}
use Rattle.flat_sim.proofs.compared.note_next.Goals as goal

pub note_moved-requires-clause-fit : goal.note_moved-requires-clause-fit
note_moved-requires-clause-fit c =
    let f = c.args.flat.now in
    let m = c.args.compiled.now in
    let x = held c.args.slots.now in
    let moves = c.args.commit.now.moves.narrow in
    let count : length moves.items ≡ length f.registers =
    omega (arith, c.if-len-count.true, c.len.ensures, ap length c.registers-count.ensures.registers, moves.ok.0) in
    let both = narrow_numbers f m c.args.commit.now x c.requires.fits c.requires.compiles c.requires.commit count in
    let moves_are = c.deref.ensures.value in
    let slots_are = c.deref-then-len-count.ensures.value in
    subst (λ (ns : List ℕ). RegistersFit f.registers ns) (sym ((λ i. to_numbers (slots_are i) (moves_are i)) ∙ both.0)) c.requires.fit

pub note_moved-requires-clause-there : goal.note_moved-requires-clause-there
note_moved-requires-clause-there c =
    let there = commit_there c.args.flat.now c.args.compiled.now c.args.commit.now (held c.args.slots.now) c.requires.fits
    c.requires.compiles c.requires.ready c.requires.commit in
    subst (λ (ms : List Move). AreThere (length c.deref-then-len-count.result.now) ms) (sym c.deref.ensures.value)
    (subst (λ (n : ℕ). AreThere n c.args.commit.now.moves.narrow.items) (sym (ap length c.deref-then-len-count.ensures.value)) there.0)

pub returns-then-len-count-clause-noted : goal.returns-then-len-count-clause-noted
returns-then-len-count-clause-noted c =
    let f = c.args.flat.now in
    let m = c.args.compiled.now in
    let x = held c.args.slots.now in
    let moves = c.args.commit.now.moves.narrow in
    let count : length moves.items ≡ length f.registers =
    omega (arith, c.if-len-count.true, c.len.ensures, ap length c.registers-count.ensures.registers, moves.ok.0) in
    let both = narrow_numbers f m c.args.commit.now x c.requires.fits c.requires.compiles c.requires.commit count in
    let moves_are = c.deref.ensures.value in
    let slots_are = c.deref-then-len-count.ensures.value in
    let old = c.args.journal.now.fresh in
    let new = c.note_moved.new.journal.fresh in
    subst (λ (ns : List ℕ). AddsRegisters f old new (register_numbers f m x) ns)
    ((λ i. moved 0 (slots_are i) (moves_are i)) ∙ both.1)
    (subst (λ (ns : List ℕ). AddsRegisters f old new ns (moved 0 c.deref-then-len-count.result.now c.deref.result.now))
    ((λ i. to_numbers (slots_are i) (moves_are i)) ∙ both.0) c.note_moved.ensures.noted)

pub returns-clause-noted : goal.returns-clause-noted
returns-clause-noted c =
    let f = c.args.flat.now in
    let x = held c.args.slots.now in
    let old = c.args.journal.now.fresh in
    let new = c.note_registers.new.journal.fresh in
    let given : c.first_slots-given.result.now ≡ take (length f.registers) c.args.compiled.now.front.slots =
    c.first_slots-given.ensures ∙ ap (λ rs. take (length rs) c.given.result.now) c.registers-count.ensures.registers
    ∙ ap (λ (ss : List Slot). take (length f.registers) ss) c.given.ensures in
    subst (λ (ss : List Slot). AddsRegisters f old new (numbers x ss) (next_numbers f (numbers x c.args.compiled.now.nodes))) given
    (subst (λ (n : NodeValues). AddsRegisters n.flat old new (numbers x c.first_slots-given.result.now) (next_numbers n.flat n.numbers))
    c.requires.nodes c.note_registers.ensures.noted)
