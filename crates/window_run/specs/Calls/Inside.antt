-- What a run's fields stand for. This project's own.
use Rattle.std.specs.Prelude.{◌≡◌, ◌+◌, ◌^◌, ◌<◌, ◌≤◌, []}
use Rattle.dt_core.specs.declared.limits.TheConstants.{MAX_LAG}
use Rattle.net_compile.specs.Cycle.{input_widths}
use Rattle.window_run.specs.Progress.{Progress}
use Rattle.window_run.specs.declared.run.Run.TheInside.{Inside}

abbrev pub progress_of : Inside → Progress
progress_of r = record {
  flat = r.sim.flat;
  lag = r.lag;
  cycles = r.cycles;
  failure = r.failure;
  at = r.sim;
  log = r.journal;
  kept = r.last;
}

-- as many rows and noted cycles are kept as a window has cycles at most
pub record IsSound (r : Inside) : Type 0 where
  pub few : r.lag ≤ MAX_LAG
  pub within : r.sim.cycle ≤ r.cycles
  pub counted : r.cycles < 2 ^ 64
  pub widths : r.last.widths ≡ input_widths r.sim.flat.signals r.sim.flat.inputs
  pub rows : r.last.most ≡ r.lag + 1
  pub notes : r.journal.most ≡ r.lag + 1
  pub closed : r.journal.fresh ≡ []
