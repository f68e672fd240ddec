use Rattle.std.proofs.Common.{◌≡◌, ◌+◌, sym, ap, subst, ◌∙◌, arith, drop}
use Rattle.std.specs.Prelude.{map}
use Rattle.netlist.specs.Run.{after_writes}
use Rattle.step_program.specs.Values.{contents}
use Rattle.held_state.specs.Kept.{AllKept}
use Rattle.held_state.specs.Noting.{Adds, state_with}
use Rattle.held_state.proofs.NotingLaws.{adds_more, write_done, write_passed}
use Rattle.held_state.proofs.noting.note_writes.Goals.{then-holds, else-holds}
use Rattle.held_state.proofs.noting.note_writes.Goals as goal

pub loop-one-preserved : goal.loop-one-preserved
loop-one-preserved c =
    let f = c.args.nodes.now.flat in
    let xs = c.args.nodes.now.numbers in
    let i = c.loop-one.one-index in
    let items = c.writes-one-items.result.now in
    let same : items ≡ f.writes = c.writes-one-items.ensures.writes ∙ ap (λ v. v.flat.writes) c.nodes.view_is in
    let first = c.args.journal.now.fresh in
    elim c.if-holds.branch [
      | then-holds w ↦ record {
        kept = subst (λ ws. AllKept f.memories ws) (sym w.words-is) w.note_write.ensures.kept;
        all = subst (λ ws. after_writes f xs (drop (i + 1) ws) (map contents c.if-holds.words)
            ≡ after_writes f xs (drop i ws) (map contents c.loop-one.words)) same
            (write_done f xs items i _ (map contents c.loop-one.words) (map contents c.if-holds.words) c.holds.result
            c.loop-one-test.true c.holds.ensures w.if-holds.true
            (ap (map contents) w.words-is ∙ w.note_write.ensures.value)) ∙ c.loop-one.invariant.all;
        noted = λ ns. subst (λ cs. Adds f first cs (state_with f ns c.args.words.now) (state_with f ns c.if-holds.words))
            (sym (ap (λ j. j.fresh) w.journal-is))
            (subst (λ ws. Adds f first w.note_write.new.journal.fresh (state_with f ns c.args.words.now) (state_with f ns ws)) (sym w.words-is)
            (adds_more f first c.loop-one.journal.fresh w.note_write.new.journal.fresh (state_with f ns c.args.words.now)
            (state_with f ns c.loop-one.words) (state_with f ns w.note_write.new.words) (c.loop-one.invariant.noted ns)
            (w.note_write.ensures.noted ns)));
        room = omega (arith, c.loop-one.invariant.room, w.note_write.ensures.room, ap (λ j. j.room) w.journal-is);
        cycles = ap (λ j. j.cycles) w.journal-is ∙ w.note_write.ensures.cycles ∙ c.loop-one.invariant.cycles;
        most = ap (λ j. j.most) w.journal-is ∙ w.note_write.ensures.most ∙ c.loop-one.invariant.most;
      }
      | else-holds w ↦ record {
        kept = subst (λ ws. AllKept f.memories ws) (sym w.words-is) c.loop-one.invariant.kept;
        all = subst (λ ws. after_writes f xs (drop (i + 1) ws) (map contents c.if-holds.words)
            ≡ after_writes f xs (drop i ws) (map contents c.loop-one.words)) same
            (write_passed f xs items i _ (map contents c.loop-one.words) (map contents c.if-holds.words) c.holds.result
            c.loop-one-test.true c.holds.ensures w.if-holds.false (ap (map contents) w.words-is)) ∙ c.loop-one.invariant.all;
        noted = λ ns. subst (λ cs. Adds f first cs (state_with f ns c.args.words.now) (state_with f ns c.if-holds.words))
            (sym (ap (λ j. j.fresh) w.journal-is))
            (subst (λ ws. Adds f first c.loop-one.journal.fresh (state_with f ns c.args.words.now) (state_with f ns ws)) (sym w.words-is)
            (c.loop-one.invariant.noted ns));
        room = omega (arith, c.loop-one.invariant.room, ap (λ j. j.room) w.journal-is);
        cycles = ap (λ j. j.cycles) w.journal-is ∙ c.loop-one.invariant.cycles;
        most = ap (λ j. j.most) w.journal-is ∙ c.loop-one.invariant.most;
      }
    ]
