use Rattle.std.proofs.Common.{◌++◌, ◌∷◌, [], sym, subst, ◌∙◌, arith, length-append}
use Rattle.window_run.specs.Ran.{RanTo}
use Rattle.window_tests.proofs.runs.window_of.Goals as goal

pub loop-preserved : goal.loop-preserved
loop-preserved g c =
    let i = c.loop.invariant.ran in
    let row = c.deref.result.now in
    let long = length-append i.1 (row ∷ []) in
    record {
      ran = (i.0, i.1 ++ row ∷ [], c.in_ok-take.ensures.ran c.args.flat.now i.0 i.1 i.2, omega (arith, long, i.3));
      flat = c.take.ensures.flat ∙ c.loop.invariant.flat;
    }

pub write_window-requires-clause-ran : goal.write_window-requires-clause-ran
write_window-requires-clause-ran g c =
    let i = c.loop.invariant.ran in
    (i.0, i.1, subst (λ f. RanTo f i.0 i.1 c.loop.run) (sym c.loop.invariant.flat) i.2)
