use Rattle.std.proofs.Common.{ℕ, ◌<◌, get_or}
use Rattle.netlist.specs.Fits.{InputFits}
use Rattle.netlist.proofs.signals.inputs_fit.Given as goal

-- each data input so far is a signal with its role
abbrev pub invariant-loop-number : goal.invariant-loop-number
invariant-loop-number l = (k : ℕ) (d : ℕ) → k < l.number → InputFits l.signals k (get_or l.inputs k d)
