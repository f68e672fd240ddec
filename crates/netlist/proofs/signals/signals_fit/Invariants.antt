use Rattle.std.proofs.Common.{ℕ, ◌<◌, get_or, length}
use Rattle.netlist.specs.Fits.{SignalFits}
use Rattle.netlist.specs.declared.design.Signal.{Signal}
use Rattle.netlist.proofs.signals.signals_fit.Given as goal

-- each signal so far fits
abbrev pub invariant-loop-number : goal.invariant-loop-number
invariant-loop-number l = (k : ℕ) (d : Signal) → k < l.number
    → SignalFits (length l.scopes) l.inputs k (get_or l.signals k d)
