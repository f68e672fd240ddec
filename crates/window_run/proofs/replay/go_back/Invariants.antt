use Rattle.std.proofs.Common.{◌≡◌, ◌+◌, [], ℕ, length}
use Rattle.netlist.specs.Run.{State}
use Rattle.window_run.specs.Calls.Again.{HasCome}
use Rattle.window_run.proofs.replay.go_back.Given as goal

abbrev pub invariant-loop : goal.invariant-loop
invariant-loop l = record {
  come : (states : ℕ → State) → HasCome states l.fn.sim l.fn.journal → HasCome states l.sim l.journal;
  noted : length l.journal.cycles + l.counter ≡ length l.fn.journal.cycles;
  cycle : l.sim.cycle + l.counter ≡ l.fn.sim.cycle;
  flat : l.sim.flat ≡ l.fn.sim.flat;
  closed : l.journal.fresh ≡ [];
  most : l.journal.most ≡ l.fn.journal.most;
}
