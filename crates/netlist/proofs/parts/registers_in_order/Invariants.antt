use Rattle.std.proofs.Common.{ℕ, suc, ◌<◌, get_or}
use Rattle.netlist.specs.Fits.{IsBefore}
use Rattle.netlist.specs.declared.design.RegisterPart.{RegisterPart}
use Rattle.netlist.proofs.parts.registers_in_order.Given as goal

-- each part so far stands before the next
abbrev pub invariant-loop-number : goal.invariant-loop-number
invariant-loop-number l = (k : ℕ) (d : RegisterPart) → suc k < l.number
    → IsBefore (get_or l.registers k d).range (get_or l.registers (suc k) d).range
