use Rattle.std.proofs.Common.{◌≤◌, ◌<◌, length, get_or, sym, ◌∙◌, arith, rules}
use Rattle.std.proofs.lemmas.List.{get_or-map, length-map}
use Rattle.held_state.specs.declared.commits.Move.{Move}
use Rattle.held_state.specs.Moves.{moved}
use Rattle.flat_sim.specs.Compared.{to_numbers}
use Rattle.held_state.proofs.NotingLaws.{register_noted, registers_done}
use Rattle.flat_sim.proofs.compared.note_moved.Goals as goal

abbrev blank : Move
blank = record { from = 0; to = 0 }

pub loop-k-preserved : goal.loop-k-preserved
loop-k-preserved c =
    let f = c.args.flat.now in
    let ms = c.args.moves.now in
    let xs = c.args.slots.now in
    let k = c.loop-k.k in
    let less : k < length ms = search rules in
    let tos = length-map ms (λ (m : Move). get_or xs m.to 0) in
    let froms = length-map ms (λ (m : Move). get_or xs m.from 0) in
    record {
      noted = register_noted f c.args.journal.now.fresh c.loop-k.journal.fresh c.note.new.journal.fresh (to_numbers xs ms) (moved 0 xs ms) k
          c.from-old.result c.from-new.result (froms ∙ sym tos) (tos ∙ c.requires.count) c.requires.fit (omega (arith, less, c.requires.count))
          (c.from-old.ensures ∙ sym (get_or-map (λ (m : Move). get_or xs m.to 0) ms k blank 0 less))
          (c.from-new.ensures ∙ sym (get_or-map (λ (m : Move). get_or xs m.from 0) ms k blank 0 less))
          c.note.ensures.fresh c.loop-k.invariant.noted;
      room = omega (arith, c.loop-k.invariant.room, c.note.ensures.room);
      cycles = c.note.ensures.cycles ∙ c.loop-k.invariant.cycles;
      most = c.note.ensures.most ∙ c.loop-k.invariant.most;
    }

pub returns-clause-noted : goal.returns-clause-noted
returns-clause-noted c =
    let ms = c.args.moves.now in
    let xs = c.args.slots.now in
    let all : length ms ≤ c.loop-k.k = search rules in
    registers_done c.args.flat.now c.args.journal.now.fresh c.loop-k.journal.fresh (to_numbers xs ms) (moved 0 xs ms) c.loop-k.k
    (omega (arith, all, length-map ms (λ (m : Move). get_or xs m.from 0)))
    (omega (arith, all, length-map ms (λ (m : Move). get_or xs m.to 0))) c.loop-k.invariant.noted
