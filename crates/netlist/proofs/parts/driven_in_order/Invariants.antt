use Rattle.std.proofs.Common.{ℕ, suc, ◌<◌, get_or}
use Rattle.netlist.specs.Fits.{IsBefore}
use Rattle.netlist.specs.declared.design.DrivenPart.{DrivenPart}
use Rattle.netlist.proofs.parts.driven_in_order.Given as goal

-- each part so far stands before the next
abbrev pub invariant-loop-number : goal.invariant-loop-number
invariant-loop-number l = (k : ℕ) (d : DrivenPart) → suc k < l.number
    → IsBefore (get_or l.driven k d).range (get_or l.driven (suc k) d).range
