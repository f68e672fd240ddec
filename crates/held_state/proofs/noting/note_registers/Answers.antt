use Rattle.std.proofs.Common.{◌≤◌, ◌<◌, length, get_or, sym, ap, ◌∙◌, arith, rules}
use Rattle.std.proofs.lemmas.List.{length-map}
use Rattle.step_program.specs.Values.{slot_value}
use Rattle.step_program.specs.Plan.{held}
use Rattle.held_state.specs.Moves.{next_numbers}
use Rattle.held_state.specs.Slots.{numbers}
use Rattle.held_state.proofs.NotingLaws.{register_noted, next_at, registers_done}
use Rattle.held_state.proofs.GivenLaws.{number_at}
use Rattle.held_state.proofs.noting.note_registers.Goals as goal

pub loop-k-preserved : goal.loop-k-preserved
loop-k-preserved c =
    let f = c.args.nodes.now.flat in
    let xs = c.args.nodes.now.numbers in
    let k = c.loop-k.k in
    let was = numbers (held c.args.values.now) c.args.given.now in
    let l : k < length f.registers = search rules in
    let given : k < length c.args.given.now = omega (arith, l, c.requires.slots) in
    record {
      noted = register_noted f c.args.journal.now.fresh c.loop-k.journal.fresh c.note.new.journal.fresh was (next_numbers f xs) k
          c.value-old.result c.number.result
          (length-map f.registers (λ p. get_or xs p.next 0) ∙ sym c.requires.slots
          ∙ sym (length-map c.args.given.now (λ s. slot_value (held c.args.values.now) s)))
          (length-map c.args.given.now (λ s. slot_value (held c.args.values.now) s) ∙ c.requires.slots) c.requires.fit l
          (c.value-old.ensures ∙ sym (number_at (held c.args.values.now) c.args.given.now k given))
          (next_at f xs c.registers-part-items.result.now k _ c.number.result
          (c.registers-part-items.ensures.registers ∙ ap (λ v. v.flat.registers) c.nodes.view_is) l c.number.ensures)
          c.note.ensures.fresh c.loop-k.invariant.noted;
      room = omega (arith, c.loop-k.invariant.room, c.note.ensures.room);
      cycles = c.note.ensures.cycles ∙ c.loop-k.invariant.cycles;
      most = c.note.ensures.most ∙ c.loop-k.invariant.most;
    }

pub returns-clause-noted : goal.returns-clause-noted
returns-clause-noted c =
    let f = c.args.nodes.now.flat in
    let xs = c.args.nodes.now.numbers in
    let was = numbers (held c.args.values.now) c.args.given.now in
    let l : length f.registers ≤ c.loop-k.k = search rules in
    registers_done f c.args.journal.now.fresh c.loop-k.journal.fresh was (next_numbers f xs) c.loop-k.k
    (omega (arith, l, length-map f.registers (λ p. get_or xs p.next 0)))
    (omega (arith, l, c.requires.slots, length-map c.args.given.now (λ s. slot_value (held c.args.values.now) s)))
    c.loop-k.invariant.noted
