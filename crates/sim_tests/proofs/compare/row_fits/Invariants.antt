use Rattle.std.proofs.Common.{ℕ, ◌<◌, ◌^◌, slice_index}
use Rattle.net_compile.specs.Cycle.{signal_width}
use Rattle.sim_tests.proofs.compare.row_fits.Given as goal

-- the numbers so far fit
abbrev pub invariant-loop-k : goal.invariant-loop-k
invariant-loop-k l = (n : ℕ) → n < l.k → slice_index l.row n < 2 ^ signal_width l.flat.signals (slice_index l.inputs n)
