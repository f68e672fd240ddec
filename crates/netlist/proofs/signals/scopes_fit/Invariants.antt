use Rattle.std.proofs.Common.{ℕ, ◌<◌, get_or}
use Rattle.netlist.specs.Fits.{ScopeFits}
use Rattle.netlist.specs.declared.design.Scope.{Scope}
use Rattle.netlist.proofs.signals.scopes_fit.Given as goal

-- each scope so far stands right
abbrev pub invariant-loop-number : goal.invariant-loop-number
invariant-loop-number l = (k : ℕ) (d : Scope) → k < l.number → ScopeFits k (get_or l.scopes k d)
