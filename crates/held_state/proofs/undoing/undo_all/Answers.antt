use Rattle.std.proofs.Common.{◌∙◌}
use Rattle.step_program.specs.Plan.{held}
use Rattle.held_state.specs.Noting.{held_state}
use Rattle.held_state.proofs.UndoingLaws.{rest_fits, undone_one}
use Rattle.held_state.proofs.undoing.undo_all.Goals as goal

pub loop-change-preserved : goal.loop-change-preserved
loop-change-preserved c =
    let f = c.args.flat.now in
    let m = c.args.compiled.now in
    record {
      notes = rest_fits f c.loop-change.journal.fresh c.undo.new.self.fresh c.in-Some.change c.in-Some.ensures.fresh c.loop-change.invariant.notes;
      can_run = c.undo-in-Some.ensures.can_run;
      all = undone_one c.loop-change.journal.fresh c.undo.new.self.fresh c.in-Some.change
          (held_state f m (held c.loop-change.slots) c.loop-change.words)
          (held_state f m (held c.undo-in-Some.new.slots) c.undo-in-Some.new.words) c.in-Some.ensures.fresh c.undo-in-Some.ensures.state
          ∙ c.loop-change.invariant.all;
      cycles = c.undo.ensures.cycles ∙ c.loop-change.invariant.cycles;
      most = c.undo.ensures.most ∙ c.loop-change.invariant.most;
    }
