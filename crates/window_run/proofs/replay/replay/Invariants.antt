use Rattle.std.proofs.Common.{◌≡◌, ◌≢◌, ◌≤◌, ◌+◌, ℕ, List, IsTrue}
use Rattle.netlist.specs.Design.{Flat}
use Rattle.waveform.specs.declared.progress.Progress.TheVariants as progress
use Rattle.window_run.specs.Calls.Again.{StandsAt, AreFrom, HasWaved}
use Rattle.window_run.proofs.replay.replay.Given as goal

-- the cycles of the rows before this one were written
abbrev pub invariant-loop-number : goal.invariant-loop-number
invariant-loop-number g l = record {
  at : (f : Flat) (order : List ℕ) (all : List (List ℕ)) (first : ℕ) → StandsAt f order all first l.fn.sim
      → AreFrom all first l.rows.rows
      → HasWaved f order all first l.number (g.K.Sink.held l.fn.out) (g.K.Sink.held l.out) (g.K.Sink.faults l.fn.out)
      (g.K.Sink.faults l.out) l.sim l.screen;
  steps : l.steps ≤ l.fn.steps + l.number;
  cycle : l.sim.cycle ≤ l.fn.sim.cycle + l.number;
  flat : l.sim.flat ≡ l.fn.sim.flat;
  design : l.screen.design ≡ l.fn.sim.flat;
  live : IsTrue l.screen.live;
  begun : l.screen.written ≢ progress.Nothing;
}
