use Rattle.std.proofs.Common.{◌≡◌, get_or, sym, subst}
use Rattle.std.specs.Prelude.{slice_index, IsSomeAnd}
use Rattle.window_run.proofs.AgainLaws.{put_one}
use Rattle.window_run.proofs.replay.show.Goals as goal

pub loop-k-preserved : goal.loop-k-preserved
loop-k-preserved c = record {
  put = put_one c.args.sim.now.values c.args.shown.now c.args.values.now c.loop-k.values c.loop-k.k c.value-in-loop-k.result 0
      c.loop-k-test.true c.requires.room c.loop-k.invariant.put
      (subst (λ n. IsSomeAnd c.args.sim.now.values (λ v. n ≡ slice_index v.signals (get_or c.args.shown.now c.loop-k.k 0)))
      (sym c.value-in-loop-k.ensures) c.value.ensures.value);
}
