use Rattle.std.proofs.lemmas.Result.{on_ok_weaker}
use Rattle.step_program.proofs.Arranges.{step_added}
use Rattle.step_program.proofs.arranger.Arranger.place_early.Goals as goal

pub returns : goal.returns
returns c =
    on_ok_weaker c.add_step.result
    (λ k d own a. step_added d _ _ c.args.entry.now a k own (c.are_set.ensures c.if-not-are_set.false)) c.add_step.ensures
