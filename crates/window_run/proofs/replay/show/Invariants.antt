use Rattle.std.proofs.Common.{◌≡◌, ◌++◌, map, take, drop}
use Rattle.std.specs.Prelude.{slice_index, IsSomeAnd}
use Rattle.window_run.proofs.replay.show.Given as goal

-- so far the first values are put
abbrev pub invariant-loop-k : goal.invariant-loop-k
invariant-loop-k l = record {
  put : IsSomeAnd l.sim.values (λ v. l.values ≡ map (slice_index v.signals) (take l.k l.shown) ++ drop l.k l.fn.values);
}
