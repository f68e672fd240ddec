use Rattle.std.proofs.lemmas.Result.{on_ok_weaker}
use Rattle.step_program.proofs.Arranges.{narrow_hoisted, wide_hoisted}
use Rattle.step_program.proofs.arranger.Arranger.hoist.Goals as goal

pub returns-then-constant-gt64 : goal.returns-then-constant-gt64
returns-then-constant-gt64 c =
    on_ok_weaker c.add_wide.result
    (λ k d own o. wide_hoisted d _ _ c.args.entry.now c.in-Some.constant.width c.in-Some.constant.value c.in-Some.ensures
    c.if-constant-gt64.true own o k) c.add_wide.ensures

pub returns-in-Ok : goal.returns-in-Ok
returns-in-Ok c =
    on_ok_weaker c.add_narrow.result
    (λ k d own o. narrow_hoisted d _ _ c.args.entry.now c.in-Some.constant.width c.in-Some.constant.value c.in-Ok.value
    c.in-Some.ensures c.if-constant-gt64.false c.in-Ok.ensures.1 own o k) c.add_narrow.ensures
