use Rattle.std.proofs.Common.{◌+◌, ◌<◌, ◌≢◌, ℕ, slice_index}
use Rattle.dt_io.proofs.calls.names_next.Given as goal

abbrev pub invariant-loop-fail : goal.invariant-loop-fail
invariant-loop-fail l = (k : ℕ) → k < l.fail-index → slice_index l.fails k ≢ l.made + 1
