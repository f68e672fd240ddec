use Rattle.step_program.proofs.Arranges.{progress_at}
use Rattle.step_program.proofs.arranger.Arranger.place_all.Goals as goal

pub loop-entry-preserved : goal.loop-entry-preserved
loop-entry-preserved c =
    λ d h a. progress_at d _ _ c.args.entries.now c.loop-entry.entry-index _ h c.loop-entry-test.true
    (c.loop-entry.invariant d h a) c.in_ok-place.ensures
